pub mod ChangeLaws
pub mod AnswerLaws
