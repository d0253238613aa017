pub mod Found
pub mod stages
