-- Whether a message suits its template and keeps to the limits.
pub mod Depths
pub mod Suited
pub mod Checked
pub mod Tried
