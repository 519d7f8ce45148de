-- Where an entity ends, in a word of eight bytes.
pub mod Stopping
pub mod FrontWords
pub mod Loaded
pub mod Tails
pub mod ShortEntities
pub mod Endless
