-- What holds between two turns, stage by stage; a caller need not read it.
pub mod CandidateCheck
pub mod CheckLater
pub mod AllChecks
pub mod AllChecksLater
pub mod WalkPlaces
pub mod WalkTurns
pub mod WalkLater
pub mod CollectTurns
pub mod QueryStages
pub mod QueryLater
