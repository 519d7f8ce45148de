-- Definitions for the contracts of internal functions and for proofs: invariants, models of state, and relations between them.
pub mod Readers
pub mod GrammarReaders
pub mod Continuations
pub mod Running
pub mod Frames
pub mod Machine
