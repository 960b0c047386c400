pub mod WordReads
pub mod CommandReads
