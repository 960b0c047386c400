pub mod Lists
pub mod Fews
pub mod Forms
pub mod Rooms
pub mod Rows
