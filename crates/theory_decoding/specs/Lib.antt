pub mod Valid
pub mod Length
pub mod Steps
pub mod Decode
pub mod Reading
