pub mod Heading
pub mod Known
