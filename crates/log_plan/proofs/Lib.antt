pub mod Placing
pub mod Following
pub mod Looping
