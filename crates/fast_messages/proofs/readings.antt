-- Messages that are read of their lines.
pub mod Back
pub mod Bodies
pub mod Shorter
pub mod Parts
pub mod Said
pub mod ReadAgain
