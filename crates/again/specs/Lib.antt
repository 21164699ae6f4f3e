pub mod Again
pub mod Embedded
