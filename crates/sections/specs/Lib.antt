pub mod Places
pub mod Queues
pub mod Tally
