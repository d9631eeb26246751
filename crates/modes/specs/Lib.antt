pub mod Asks
pub mod Counting
pub mod Answers
