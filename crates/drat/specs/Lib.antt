pub mod Numeral
pub mod Grammar
pub mod Reading
pub mod Filled
pub mod Writing
pub mod Listed
pub mod Anchors
