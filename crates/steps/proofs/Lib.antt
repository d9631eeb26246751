pub mod LiteralLaws
pub mod ChainLaws
pub mod StepLaws
pub mod CallLaws
pub mod RenameLaws
pub mod UnitLaws
pub mod WriteLaws
pub mod AnswerLaws
