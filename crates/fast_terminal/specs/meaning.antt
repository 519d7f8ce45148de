-- What is meant: the contracts of public functions rest on these definitions.
pub mod Colors
pub mod Meters
pub mod Painting
