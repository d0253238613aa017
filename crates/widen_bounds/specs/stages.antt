pub mod Widening
pub mod Climbing
pub mod WidenLater
pub mod Storing
pub mod Moving
pub mod MoveLater
pub mod Guarded
