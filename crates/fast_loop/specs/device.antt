-- Definitions for the arms of the loop and its steps.
pub mod Arms
pub mod Parts
