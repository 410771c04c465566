pub mod Memory
pub mod Links
pub mod Steps
pub mod Around
pub mod Kept
pub mod Images
pub mod Removing
pub mod Others
