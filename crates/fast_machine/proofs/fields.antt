-- What is next: a field by its node and its entry.
pub mod QuickFields
pub mod SentFields
pub mod EntryTexts
pub mod Heads
pub mod Identifiers
pub mod FieldNodes
