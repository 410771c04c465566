pub mod Way
pub mod Meets
pub mod Entries
pub mod Going
