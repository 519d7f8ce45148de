-- Devices of contracts within the crates and of proofs: invariants, models of state, relations in between.
pub mod Due
pub mod Lent
pub mod Putting
pub mod Room
pub mod Starts
pub mod Waiting
