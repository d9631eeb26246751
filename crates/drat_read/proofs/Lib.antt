pub mod LitLaws
pub mod LiteralLaws
pub mod BodyLaws
pub mod OpenLaws
pub mod FillLaws
