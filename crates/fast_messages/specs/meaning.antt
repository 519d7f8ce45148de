-- What is meant: the contracts of public functions rest on these definitions.
pub mod Back
pub mod Distinct
pub mod Lined
pub mod Reading
pub mod Unsaid
pub mod Codes
