-- What the arms of the machine's loop do.
pub mod Before
pub mod Passed
pub mod Taken
pub mod Unsent
pub mod Fields
pub mod Back
pub mod Ends
pub mod Starts
pub mod First
pub mod Walks
pub mod Ops
pub mod Texts
pub mod Led
pub mod Parts
pub mod Lengths
pub mod Groups
