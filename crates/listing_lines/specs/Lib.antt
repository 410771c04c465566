pub mod Text
pub mod Wrote
pub mod Digits
pub mod Writes
