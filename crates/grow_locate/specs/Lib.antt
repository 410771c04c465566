pub mod Seek
pub mod Walk
pub mod Choose
pub mod Parent
pub mod Children
pub mod Aim
