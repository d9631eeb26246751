pub mod Ledger
pub mod Entered
pub mod Session
pub mod Assumed
pub mod Made
pub mod Worked
