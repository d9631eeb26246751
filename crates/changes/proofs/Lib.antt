pub mod LeavesLaws
pub mod TurnLaws
pub mod CallLaws
pub mod DeletionLaws
pub mod AtOnceLaws
