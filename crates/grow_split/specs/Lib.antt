pub mod Separate
pub mod Severed
