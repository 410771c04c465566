pub mod Map
pub mod Search
pub mod Mapped
