pub mod Searching
pub mod Sorting
pub mod Splitting
pub mod Editing
pub mod Joining
pub mod Lists
