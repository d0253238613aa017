pub mod Ends
pub mod WholeRecord
pub mod Found
pub mod Clear
pub mod Counted
