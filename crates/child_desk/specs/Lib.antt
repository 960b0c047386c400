pub mod Told
pub mod Book
pub mod Line
pub mod Ends
pub mod Heard
pub mod Turn
pub mod Limits
