pub mod Rename
pub mod Lifting
