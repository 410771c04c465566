pub mod Literals
pub mod Nested
pub mod Records
pub mod Told
pub mod Answer
