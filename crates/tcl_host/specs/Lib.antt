-- The calls of a host and its replies, as data.
pub mod Calls
