pub mod Parts
pub mod Templates
pub mod Formats
pub mod Scanning
