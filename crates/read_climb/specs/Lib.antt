pub mod Route
pub mod Search
pub mod Rise
pub mod Climbed
