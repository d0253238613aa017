pub mod CreateTurns
pub mod CreateEnds
pub mod WholeCreate
pub mod Begun
pub mod DestroyTurns
pub mod DestroyEnds
pub mod WholeLook
pub mod WholeDestroy
