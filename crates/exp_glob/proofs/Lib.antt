pub mod ReadOn
pub mod Greedy
pub mod Starts
pub mod Found
pub mod Made
pub mod Endings
pub mod Wholes
