pub mod Going
pub mod Gone
pub mod Answer
