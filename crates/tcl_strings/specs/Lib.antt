pub mod Classes
pub mod Mapping
pub mod Strings
