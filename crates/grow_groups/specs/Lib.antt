pub mod Used
pub mod Tells
pub mod Step
pub mod Group
