pub mod Heads
pub mod Nodes
pub mod Pool
pub mod Popping
pub mod Storing
