-- Devices of contracts within the crates and of proofs: invariants, models of state, relations in between.
pub mod Progress
