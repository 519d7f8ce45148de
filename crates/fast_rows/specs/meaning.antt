-- What is meant: the contracts of public functions rest on these definitions.
pub mod Columns
pub mod Notes
pub mod Rows
pub mod Written
