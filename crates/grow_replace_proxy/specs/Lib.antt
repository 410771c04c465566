pub mod Left
pub mod Seek
pub mod Inner
pub mod Lift
pub mod Keeps
pub mod Above
