-- Definitions for the contracts of internal functions and for proofs: invariants, models of state, and relations between them.
pub mod FieldsAs
pub mod IntegerItems
pub mod DecimalParts
pub mod TextItems
pub mod TextsAs
