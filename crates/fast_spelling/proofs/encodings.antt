-- What is encoded of a message, and what is refused.
pub mod Encoded
pub mod OneEncoding
pub mod Instructions
pub mod Progress
pub mod Excluded
pub mod Whole
pub mod Late
pub mod Sealed
