pub mod CheckLaws
pub mod FoundLaws
pub mod AnswerLaws
pub mod PairCounts
pub mod NotedLaws
