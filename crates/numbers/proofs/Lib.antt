pub mod NumberLaws
pub mod SurfaceLaws
pub mod LineLaws
