pub mod Blanks
pub mod Saying
pub mod Cutting
pub mod Telling
pub mod Casts
pub mod Places
pub mod Taping
