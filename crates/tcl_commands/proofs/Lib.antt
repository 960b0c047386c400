pub mod Matched
pub mod Pairwise
pub mod Linked
pub mod Parsed
pub mod Returned
