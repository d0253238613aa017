-- What holds between two turns, stage by stage; a caller need not read it.
pub mod Keeping
pub mod Searching
pub mod TakingNodes
pub mod Marking
pub mod MarkLater
pub mod DrawStages
pub mod DrawLater
pub mod GivingUp
pub mod GivingLater
pub mod GiveSteps
pub mod Preparing
pub mod PrepareLater
pub mod Aborting
pub mod AbortLater
