-- What is meant: the contracts of public functions rest on these definitions.
pub mod Choosing
pub mod Selecting
pub mod Naming
pub mod Messages
