pub mod Child
pub mod Locate
