pub mod Nesting
pub mod Bytes
