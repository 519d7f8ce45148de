-- Definitions on which the contracts of public functions rest.
pub mod Limits
pub mod Kinds
pub mod Messages
pub mod Initial
pub mod Values
pub mod Views
pub mod Codes
