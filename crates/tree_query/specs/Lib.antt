pub mod Indexes
pub mod Finding
pub mod Walking
pub mod Answers
pub mod Checking
pub mod Collecting
pub mod stages
