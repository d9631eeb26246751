pub mod Lists
pub mod Found
pub mod Noted
pub mod Checks
