pub mod Cnf
pub mod Reading
pub mod Calls
pub mod Anchors
