pub mod Drawing
pub mod Parts
pub mod Shape
pub mod Prepared
pub mod Unjoined
pub mod PreparedLists
pub mod Answers
pub mod stages
