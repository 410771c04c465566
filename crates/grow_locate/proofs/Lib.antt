pub mod Siblings
pub mod Aim
