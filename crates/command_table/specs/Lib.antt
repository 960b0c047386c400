pub mod Commands
pub mod Counts
pub mod Options
pub mod Switches
pub mod Flags
pub mod Reading
pub mod Rows
pub mod Advice
