-- What is meant: the contracts of the C functions rest on these definitions.
pub mod Written
pub mod Opening
pub mod Decoders
pub mod Encoders
pub mod Queries
