pub mod CodecLaws
