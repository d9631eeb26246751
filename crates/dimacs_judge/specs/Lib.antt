pub mod Limits
pub mod Local
