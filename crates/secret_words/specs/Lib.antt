pub mod Masking
pub mod Pieces
