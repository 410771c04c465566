pub mod Leaf
pub mod Stand
pub mod Leaves
pub mod Inner
