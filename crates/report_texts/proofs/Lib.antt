pub mod Writing
pub mod Series
pub mod Whole
pub mod Tallying
pub mod Carried
pub mod Longer
