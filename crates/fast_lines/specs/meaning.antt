-- What is meant: the contracts of public functions rest on these definitions.
pub mod Lines
pub mod Hex
pub mod Texts
pub mod Values
pub mod Forms
pub mod Numbers
