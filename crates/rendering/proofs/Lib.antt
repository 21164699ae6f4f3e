pub mod Decimal
pub mod Putting
pub mod Texts
pub mod TermLine
pub mod Promises
pub mod Given
pub mod CaseF
