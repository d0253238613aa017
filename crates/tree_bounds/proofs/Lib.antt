pub mod Sides
pub mod NodeHulls
pub mod FirstChildren
pub mod Filling
pub mod Sets
