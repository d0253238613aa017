pub mod Removing
pub mod RemoveLater
