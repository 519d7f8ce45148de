-- A stream, its reader and its machine, and the bounds of its events.
pub mod Streams
pub mod Reading
pub mod Bound
pub mod Frames
pub mod Stepping
pub mod Caps
