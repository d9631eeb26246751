pub mod FreeLaws
pub mod GapLaws
