-- Definitions on which the contracts of public functions rest.
pub mod Recorded
pub mod Decoding
pub mod Feeding
