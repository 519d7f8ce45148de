-- Entities as numbers: signs, overlong forms, and the shortest form.
pub mod Numbers
pub mod Overlong
pub mod Judging
pub mod Signs
pub mod Writing
pub mod Spellings
