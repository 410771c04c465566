pub mod Up
pub mod Order
pub mod Loops
pub mod Call
