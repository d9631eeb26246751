pub mod SortLaws
pub mod SimplifyLaws
pub mod AnswerLaws
