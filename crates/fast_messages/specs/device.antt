-- Devices of contracts within the crates and of proofs: invariants, models of state, relations in between.
pub mod Ahead
pub mod Cursors
pub mod Naming
pub mod Progress
pub mod Refusing
pub mod Runs
