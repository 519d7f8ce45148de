-- Definitions for the contracts of internal functions and for proofs: invariants, models of state, and relations between them.
pub mod Taking
pub mod Settling
pub mod Stages
pub mod Scratches
pub mod NextUnits
pub mod UnitFronts
pub mod Deciding
pub mod TextDecisions
pub mod Words
