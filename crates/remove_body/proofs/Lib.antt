pub mod RemoveTurns
pub mod RemoveSteps
