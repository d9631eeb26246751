pub mod LookupLaws
pub mod OpenLaws
pub mod AnswerLaws
