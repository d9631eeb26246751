pub mod InLaws
