-- Definitions on which the contracts of public functions rest.
pub mod Flat
pub mod Presence
pub mod TextFields
