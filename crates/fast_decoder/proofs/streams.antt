-- What a feed does, in terms of the stream.
pub mod Bounds
pub mod Carrying
pub mod Following
pub mod Starts
pub mod Ends
pub mod Paying
