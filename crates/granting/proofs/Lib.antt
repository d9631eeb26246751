pub mod GrantLaws
