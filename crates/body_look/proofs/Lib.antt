pub mod BoxLoads
pub mod Finding
pub mod LookTurns
pub mod Answering
