-- The bits of a presence map, read and written.
pub mod Bits
pub mod Spare
pub mod Building
pub mod Finishing
pub mod Narrow
