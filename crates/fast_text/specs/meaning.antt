-- What is meant: the contracts of public functions rest on these definitions.
pub mod Streams
pub mod ToBytes
pub mod Watched
pub mod Room
pub mod LineWriter
pub mod Fronts
pub mod LineSink
pub mod BlockWriter
