pub mod Every
pub mod Tables
