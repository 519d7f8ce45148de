-- References: what they name, circles, chains, and bodies with references in place.
pub mod ChainSizes
pub mod InPlaceSizes
pub mod ChainLaws
pub mod InPlaceBodies
pub mod ChainFaults
pub mod Targets
pub mod CycleLaws
pub mod Headings
pub mod CycleRanks
