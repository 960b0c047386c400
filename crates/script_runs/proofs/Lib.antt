pub mod Counting
pub mod Standing
pub mod Writers
pub mod Drives
pub mod Lines
pub mod OverLogs
pub mod Rewritten
pub mod Again
