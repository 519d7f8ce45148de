pub mod Running
pub mod Lined
