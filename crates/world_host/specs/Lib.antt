pub mod Alone
pub mod Rooms
pub mod Counted
pub mod Batches
pub mod Answers
pub mod Shown
