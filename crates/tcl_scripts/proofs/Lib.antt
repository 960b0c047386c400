pub mod Keeping
pub mod Valued
pub mod OneMore
