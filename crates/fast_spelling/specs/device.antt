-- Devices of contracts within the crates and of proofs: invariants, models of state, relations in between.
pub mod Drafts
pub mod Fields
pub mod Nodes
pub mod Places
pub mod Presence
pub mod Progress
pub mod Groups
pub mod Usual
pub mod Checked
pub mod Forms
