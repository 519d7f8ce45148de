-- What leads to the loop, and behind it: the segment that it begins in, and bytes that are kept.
pub mod BegunAt
pub mod Kept
