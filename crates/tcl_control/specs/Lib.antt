pub mod Verbs
pub mod Arms
pub mod Choosing
pub mod Groups
pub mod Procs
pub mod Scopes
