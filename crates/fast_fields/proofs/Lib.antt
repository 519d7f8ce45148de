pub mod Carries
pub mod Readings
