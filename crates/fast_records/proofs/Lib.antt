pub mod Back
pub mod Delivering
pub mod Due
pub mod Moving
pub mod Put
pub mod Shown
pub mod Told
pub mod Within
