pub mod RowLaws
pub mod EachLaws
pub mod AnswerLaws
pub mod ThinLaws
pub mod NamedLaws
