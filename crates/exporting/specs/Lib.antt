pub mod Tokens
pub mod Measuring
pub mod Putting
