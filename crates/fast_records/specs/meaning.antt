-- What is meant: the contracts of public functions rest on these definitions.
pub mod Feeding
pub mod Lent
pub mod Putting
pub mod Records
pub mod Status
pub mod Waiting
pub mod Sink
