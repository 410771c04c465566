pub mod Scan
pub mod Follow
pub mod Read
