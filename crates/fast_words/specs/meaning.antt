-- What is meant: the contracts of the public functions rest on these definitions.
pub mod Decisions
pub mod Plans
pub mod Words
