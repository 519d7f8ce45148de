pub mod Chosen
pub mod Picked
pub mod Named
