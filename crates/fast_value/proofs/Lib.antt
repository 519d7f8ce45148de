pub mod HexTexts
pub mod Digits
pub mod Numerals
pub mod ItemViews
