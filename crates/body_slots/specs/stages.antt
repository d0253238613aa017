-- What holds between two turns, stage by stage; a caller need not read it.
pub mod Creating
pub mod Later
pub mod Destroying
pub mod DestroyLater
