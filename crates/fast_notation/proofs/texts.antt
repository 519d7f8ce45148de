-- What a text writes: keys, tables, uses of operators, and the set of a document.
pub mod NameTests
pub mod TableKeys
pub mod ReadingPieces
pub mod ReadingLaws
pub mod WrittenLaws
pub mod SetLaws
pub mod SoundUses
pub mod InstructionForms
pub mod ReadingSteps
