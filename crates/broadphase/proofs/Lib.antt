pub mod ReadingLemmas
pub mod Ending
