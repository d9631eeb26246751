pub mod Numbers
pub mod Surface
pub mod Flat
pub mod Lines
