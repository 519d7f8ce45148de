-- The values of lines.
pub mod Told
pub mod ToldValues
pub mod Shown
pub mod ShownMessages
