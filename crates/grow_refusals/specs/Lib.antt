pub mod Admit
