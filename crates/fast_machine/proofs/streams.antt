-- Steps, one after the other.
pub mod Feeding
pub mod Running
