pub mod ValueLaws
pub mod RowLaws
pub mod CallLaws
