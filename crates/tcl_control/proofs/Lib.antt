pub mod Grouped
pub mod Scopes
pub mod Fits
mod Chosen
pub mod Armed
