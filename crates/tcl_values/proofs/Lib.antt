pub mod Grown
pub mod Put
pub mod Bare
