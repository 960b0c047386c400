pub mod Meeting
pub mod Coursing
pub mod LogLines
pub mod Fronts
