-- What holds between two turns, stage by stage; a caller need not read it.
pub mod Looking
pub mod LookLater
