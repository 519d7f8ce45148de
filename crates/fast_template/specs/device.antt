-- Definitions for the contracts of internal functions and for proofs: invariants, models of state, and relations between them.
pub mod Saturation
pub mod Counts
pub mod Programs
