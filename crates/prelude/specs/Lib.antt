pub mod Prelude
pub mod Answer
pub mod Passes
