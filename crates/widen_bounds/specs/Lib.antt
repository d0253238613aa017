pub mod stages
pub mod Answers
