pub mod Calling
pub mod Cursor
pub mod Final
pub mod Promise
