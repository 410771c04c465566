pub mod Leafy
