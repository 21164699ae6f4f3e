pub mod Told
pub mod Again
pub mod Embedded
