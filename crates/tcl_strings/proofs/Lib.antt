pub mod Places
pub mod Mapped
pub mod Repeated
