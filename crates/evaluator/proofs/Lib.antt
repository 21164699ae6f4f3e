pub mod LastState
pub mod Values
pub mod Finishing
pub mod Clearing
pub mod Calls
pub mod Promises
pub mod Applications
pub mod Emitting
