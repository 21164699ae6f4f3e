pub mod Ahead
pub mod Holding
pub mod Scanning
pub mod Writing
