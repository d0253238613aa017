pub mod Axis
pub mod Order
pub mod Same
pub mod Scale
pub mod Shapes
pub mod Words
pub mod Boxes
