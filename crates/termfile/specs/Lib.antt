pub mod Code
pub mod Meaning
pub mod Nodes
pub mod File
pub mod Canonical
pub mod Output
pub mod Passes
pub mod Answer
