pub mod Bounded
pub mod First
pub mod Led
pub mod Natives
pub mod Passing
pub mod Told
pub mod Walked
pub mod Answered
