pub mod Position
pub mod Resize
pub mod Splice
