-- Definitions for the contracts of internal functions and for proofs: the nodes of codes, and the runs of programs.
pub mod Codes
pub mod Ops
pub mod Runs
pub mod Starts
pub mod Programs
