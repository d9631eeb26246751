pub mod NumberLaws
pub mod RunsLaws
pub mod NextLaws
pub mod JudgedLaws
pub mod TallyLaws
pub mod CountsLaws
