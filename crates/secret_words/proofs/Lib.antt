pub mod Begins
pub mod Longest
pub mod Parts
