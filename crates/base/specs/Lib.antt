pub mod Choice
pub mod Bounded
pub mod Lent
pub mod Answer
