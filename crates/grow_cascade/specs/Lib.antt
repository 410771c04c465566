pub mod Rising
pub mod Stops
pub mod Up
pub mod Cascade
