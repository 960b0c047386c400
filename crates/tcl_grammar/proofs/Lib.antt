pub mod Stops
pub mod Spans
pub mod Braces
pub mod Gaps
pub mod Followed
pub mod Derived
pub mod Ruled
