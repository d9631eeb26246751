pub mod LimitLaws
pub mod RunsLaws
pub mod NextLaws
pub mod JudgedLaws
pub mod TallyLaws
