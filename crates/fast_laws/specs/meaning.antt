-- What is meant: the contracts of public functions rest on these definitions.
pub mod Proper
pub mod Naming
pub mod Nesting
pub mod Counting
pub mod Raising
pub mod Items
pub mod Settling
