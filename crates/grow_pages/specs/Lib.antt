pub mod Write
pub mod Links
pub mod Paged
pub mod Relinked
