-- Bits of maps, entries, and the bytes of values.
pub mod Ledgers
pub mod Bits
pub mod Presence
pub mod Spelling
pub mod Mapped
pub mod Respelled
pub mod Groups
pub mod OneByte
