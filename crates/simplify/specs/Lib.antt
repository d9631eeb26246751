pub mod Values
pub mod Cuts
pub mod Answers
