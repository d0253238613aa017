pub mod Scaling
pub mod Passing
pub mod Later
pub mod Places
pub mod Unique
pub mod Arrivals
