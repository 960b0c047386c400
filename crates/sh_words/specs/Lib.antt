pub mod Quoting
pub mod Reading
pub mod Changes
pub mod Terminal
