pub mod Node
pub mod Placed
