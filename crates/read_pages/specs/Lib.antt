pub mod Counts
pub mod Numbers
