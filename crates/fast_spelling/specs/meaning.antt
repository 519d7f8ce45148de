-- What is meant: the contracts of public functions rest on these definitions.
pub mod Encoding
pub mod Suiting
pub mod Refusals
pub mod Entries
pub mod Ledgers
pub mod Again
pub mod Refused
pub mod Codes
