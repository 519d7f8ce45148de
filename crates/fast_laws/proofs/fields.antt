-- The bytes of a field, by its item.
pub mod ItemsRead
pub mod ItemsSpelled
pub mod FieldsFound
