pub mod steps
pub mod arms
