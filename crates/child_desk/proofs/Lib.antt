pub mod Places
pub mod Telling
pub mod Answering
pub mod Lining
pub mod Coming
pub mod Kept
pub mod Hears
pub mod Limiting
