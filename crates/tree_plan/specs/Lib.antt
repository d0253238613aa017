pub mod Axes
pub mod Arranged
pub mod Quarters
pub mod Standing
pub mod Plan
pub mod Numbering
