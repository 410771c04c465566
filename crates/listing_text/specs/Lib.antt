pub mod Lined
pub mod Bound
pub mod Whole
pub mod Example
