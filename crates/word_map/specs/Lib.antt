pub mod Limits
pub mod Names
pub mod Row
pub mod Layout
pub mod Inside
pub mod Words
