pub mod CountLaws
pub mod CnfLaws
