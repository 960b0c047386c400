mod Converted
pub mod Edits
pub mod Cuts
pub mod Buffers
pub mod Plain
pub mod Drafts
pub mod Sent
pub mod Joins
