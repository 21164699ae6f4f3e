pub mod Items
pub mod Walks
pub mod Turns
pub mod Writers
pub mod Nodes
pub mod Answers
