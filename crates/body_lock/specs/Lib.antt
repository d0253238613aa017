pub mod Stripes
pub mod Guarding
pub mod Seeing
pub mod Settled
pub mod Staying
pub mod Multi
pub mod Answers
pub mod stages
