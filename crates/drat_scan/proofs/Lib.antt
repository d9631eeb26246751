pub mod PlaceLaws
pub mod ScanLaws
