pub mod Turns
pub mod Replaced
pub mod Inlined
