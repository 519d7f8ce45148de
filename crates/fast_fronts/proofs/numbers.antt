-- Entities as numbers in words of eight bytes: how their groups are packed and spread, and what their signs extend to.
pub mod Packing
pub mod SignExtension
pub mod Spreading
pub mod Whole
