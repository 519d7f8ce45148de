-- Definitions on which the contracts of public functions rest.
pub mod Notation
pub mod Uses
pub mod InPlace
pub mod Checked
pub mod Refused
pub mod Labels
pub mod Faults
pub mod Firsts
pub mod FivePasses
pub mod SetTrees
pub mod Codes
pub mod Unwritten
