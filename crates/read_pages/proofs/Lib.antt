pub mod Largest
pub mod Pages
pub mod Scans
