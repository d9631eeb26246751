pub mod Codec
