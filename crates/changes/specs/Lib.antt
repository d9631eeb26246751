pub mod AtOnce
pub mod Leaves
pub mod Live
pub mod Solvers
