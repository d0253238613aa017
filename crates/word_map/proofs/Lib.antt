pub mod Faults
pub mod Stretches
pub mod Places
pub mod Stripes
pub mod Sizes
pub mod Words
