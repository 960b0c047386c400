pub mod Given
pub mod Plan
pub mod Standing
