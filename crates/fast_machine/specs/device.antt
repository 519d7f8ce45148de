-- Definitions for the contracts of internal functions and for proofs: invariants, models of state, and relations between them.
pub mod Handing
pub mod Positions
pub mod UnitTaken
pub mod Moving
pub mod Passing
pub mod TurnsLeft
pub mod Serving
pub mod AtHand
pub mod Words
pub mod Steps
pub mod Opening
pub mod FitMaps
pub mod Starts
pub mod Gathered
