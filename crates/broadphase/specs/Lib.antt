pub mod Reading
pub mod Form
pub mod Ended
pub mod Status
