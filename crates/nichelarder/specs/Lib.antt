pub mod Numbers
pub mod Small
