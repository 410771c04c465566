pub mod Own
pub mod Listed
pub mod Cleared
pub mod Freeing
pub mod Branch
