pub mod Laws
pub mod Stand
pub mod Keeps
pub mod Found
pub mod Table
pub mod Used
