-- What the rule sends for a field, and its bytes.
pub mod Spelled
pub mod OneItem
pub mod Ruled
pub mod Sendable
pub mod FieldsWritten
pub mod Chosen
pub mod Usual
pub mod FormsTold
pub mod Absences
pub mod Heads
