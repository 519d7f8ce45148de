-- A unit of which some bytes are in hand.
pub mod Hanging
pub mod InHand
pub mod Takings
pub mod Takes
pub mod Waitings
pub mod SegmentMaps
