pub mod Id
pub mod Word
pub mod Text
