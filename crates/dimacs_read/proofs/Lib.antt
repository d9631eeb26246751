pub mod HeadingLaws
pub mod CallLaws
pub mod FillLaws
