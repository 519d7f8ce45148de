-- What is meant: the contracts of the public functions rest on these definitions.
pub mod Commands
