-- Definitions for the contracts of internal functions and for proofs: invariants, models of state, and relations between them.
pub mod Places
pub mod Numbers
pub mod Usable
pub mod Bodies
