pub mod Parts
pub mod Asks
