pub mod Answer
pub mod Pages
pub mod Whole
