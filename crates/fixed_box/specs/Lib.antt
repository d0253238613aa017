pub mod Range
pub mod Word
pub mod Corner
pub mod FixBox
pub mod Touch
