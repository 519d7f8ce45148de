pub mod readers
pub mod terms
pub mod streams
