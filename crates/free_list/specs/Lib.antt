pub mod Calls
pub mod Heads
pub mod Pool
pub mod Since
