pub mod Demand
pub mod Refused
pub mod Part
pub mod Widths
