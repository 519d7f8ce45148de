-- Definitions for the contracts of internal functions and for proofs: invariants, models of state, and relations between them.
pub mod Segments
pub mod Reading
pub mod WrittenSets
pub mod WrittenReading
pub mod Sound
pub mod References
pub mod Chains
pub mod EntryKeys
pub mod Built
pub mod Builders
pub mod ReadSets
pub mod Extents
pub mod Cycles
