-- Definitions on which the contracts of public functions rest.
pub mod Dictionary
pub mod Operators
pub mod Previous
pub mod Stores
pub mod Commands
pub mod Slots
pub mod Lists
pub mod Answers
pub mod Sending
pub mod Rule
pub mod Entry
pub mod Held
pub mod EntryTexts
