pub mod Onto
mod Fronts
pub mod Assigned
pub mod Limits
