-- Definitions on which the contracts of public functions rest.
pub mod Events
pub mod Handed
pub mod Phrases
pub mod Units
pub mod Grammar
pub mod Fields
pub mod Messages
pub mod Streams
pub mod Sinks
pub mod Account
pub mod Begins
pub mod FaultCodes
