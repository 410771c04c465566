pub mod Setup
pub mod Growing
