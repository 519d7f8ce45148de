-- Definitions for the contracts of internal functions and for proofs: invariants, models of state, and relations between them.
pub mod Runs
pub mod Cursors
pub mod MapPlaces
pub mod Segments
pub mod Nexts
pub mod Places
pub mod MapTaking
pub mod Pending
