pub mod Kids
pub mod Chosen
pub mod Search
pub mod Level
pub mod Lean
