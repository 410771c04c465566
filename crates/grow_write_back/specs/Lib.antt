pub mod Content
pub mod Off
