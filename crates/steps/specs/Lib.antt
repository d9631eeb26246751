pub mod Kinds
pub mod Names
pub mod Refusals
pub mod Answers
