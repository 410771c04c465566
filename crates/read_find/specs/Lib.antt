pub mod Nth
pub mod Rowed
pub mod Entries
pub mod Find
pub mod Shown
