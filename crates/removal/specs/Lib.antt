pub mod Counting
pub mod Asks
pub mod Answers
