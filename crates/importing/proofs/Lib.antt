pub mod Ahead
pub mod Indices
pub mod Holding
pub mod Places
pub mod Turns
pub mod Endings
pub mod Files
pub mod Answers
