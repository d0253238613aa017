pub mod Faults
pub mod Bytes
pub mod Feed
pub mod Tape
