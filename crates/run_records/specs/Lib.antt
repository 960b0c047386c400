pub mod Joined
pub mod Merged
