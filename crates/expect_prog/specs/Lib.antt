pub mod Complaint
pub mod Variables
pub mod Each
pub mod Secrets
pub mod Given
pub mod Folder
pub mod Outcome
