pub mod Told
pub mod Record
pub mod Pumped
pub mod Started
pub mod Handed
