pub mod Facts
pub mod Tests
pub mod Reached
pub mod Walk
pub mod Fuel
pub mod Stages
pub mod Small
pub mod Exact
