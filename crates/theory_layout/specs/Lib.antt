pub mod Here
pub mod Widths
pub mod Items
pub mod Order
pub mod Nodes
pub mod Origins
