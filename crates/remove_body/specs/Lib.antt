pub mod Answers
pub mod stages
