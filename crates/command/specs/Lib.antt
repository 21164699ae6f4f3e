pub mod Telling
pub mod ExitStatus
