pub mod rules
pub mod encodings
pub mod bytes
pub mod limits
pub mod again
