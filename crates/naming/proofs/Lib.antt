pub mod SampledLaws
pub mod CallLaws
pub mod InLaws
