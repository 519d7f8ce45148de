-- Fields, nodes, entries and templates, one after the other.
pub mod Lists
pub mod NodeLists
pub mod FieldLists
pub mod TemplateLists
pub mod PlaceLists
pub mod ReferenceLists
pub mod EntryLists
