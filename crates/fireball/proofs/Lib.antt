pub mod Scope
pub mod Determinism
pub mod Harmony
pub mod Agreement
pub mod Examples
