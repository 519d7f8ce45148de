-- A reader answers as its phrase.
pub mod Binds
pub mod Fronts
pub mod UnitReaders
pub mod Integers
pub mod TextReaders
pub mod Grammars
