pub mod Taken
pub mod Begin
pub mod Unsplit
