pub mod Term
pub mod Calculus
pub mod Stepping
