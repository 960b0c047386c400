pub mod Newlines
pub mod Lines
pub mod Ends
