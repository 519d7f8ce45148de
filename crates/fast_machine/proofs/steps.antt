-- Turns of the machine, and their count.
pub mod Moves
pub mod FieldTurns
pub mod SegmentTurns
pub mod Begun
pub mod Answered
pub mod TurnCounts
pub mod Opened
pub mod NextElements
pub mod Recounted
