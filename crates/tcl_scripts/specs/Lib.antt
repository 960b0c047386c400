pub mod Commands
pub mod Kept
pub mod Gathered
pub mod Literals
