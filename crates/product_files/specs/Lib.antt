pub mod Entry
pub mod Way
pub mod Part
