-- Texts and their lines.
pub mod Closed
pub mod Feeds
pub mod LineTexts
pub mod NoFeeds
pub mod Utf8Lines
