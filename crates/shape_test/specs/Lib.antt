pub mod Gap
pub mod Run
pub mod Fraction
pub mod Spans
pub mod Entry
pub mod Place
pub mod Touched
