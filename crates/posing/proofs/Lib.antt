pub mod PlaceLaws
pub mod AllLaws
pub mod CallLaws
pub mod HeldLaws
