pub mod Sibling
pub mod Reduced
