-- What the machine's functions do with each kind of unit.
pub mod CutMaps
pub mod UnitTaken
pub mod OpenMaps
pub mod ShortMaps
pub mod StartMaps
pub mod Ahead
pub mod KnownStarts
pub mod FieldTakes
pub mod Gathers
