pub mod Arrays
pub mod Returns
pub mod Substituted
pub mod Upvars
pub mod Versions
pub mod Plain
