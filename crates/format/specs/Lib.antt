pub mod First
pub mod Store
pub mod Call
