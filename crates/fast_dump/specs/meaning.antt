-- What is meant: the contracts of public functions rest on these definitions.
pub mod Kept
pub mod Pages
pub mod Dumping
