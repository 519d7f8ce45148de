-- Where an entity ends.
pub mod Blocks
pub mod FirstStop
