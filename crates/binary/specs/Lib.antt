pub mod Bits
pub mod Reading
pub mod Answer
pub mod Exchange
pub mod Stacks
