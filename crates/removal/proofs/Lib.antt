pub mod AnswerLaws
pub mod CountingLaws
pub mod SweepLaws
pub mod SweepOneLaws
pub mod SweepCallLaws
pub mod HeldLaws
pub mod RefusalLaws
pub mod RemoveLaws
