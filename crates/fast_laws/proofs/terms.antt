-- Terms in a row, whole or left, and under limits with more room.
pub mod Turns
pub mod Defaults
pub mod Fronts
pub mod Innocent
pub mod Raising
