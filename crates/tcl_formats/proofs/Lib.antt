pub mod Parts
pub mod Fielded
pub mod Capped
pub mod Signs
