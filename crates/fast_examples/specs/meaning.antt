-- What is meant: the contracts of public functions rest on these definitions.
pub mod Vectors
pub mod Messages
pub mod Operators
pub mod Cuts
pub mod Faults
pub mod Limits
pub mod Lines
pub mod Spelled
pub mod Texts
pub mod Asked
pub mod Refusals
pub mod Encodings
pub mod Wide
pub mod Initials
pub mod Conversions
