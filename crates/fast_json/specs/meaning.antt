-- What is meant: the contracts of public functions rest on these definitions.
pub mod Json
pub mod Brackets
pub mod Keys
pub mod JsonSink
