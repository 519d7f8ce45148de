-- Definitions for the contracts of internal functions and for proofs.
pub mod Carries
pub mod Readings
