pub mod Joins
pub mod Splits
pub mod Edits
pub mod Found
pub mod Sorts
pub mod Ordered
