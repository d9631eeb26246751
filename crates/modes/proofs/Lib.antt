pub mod AnswerLaws
pub mod NotesLaws
pub mod ChangeLaws
pub mod SetModeLaws
pub mod CursorLaws
pub mod HiddenLaws
pub mod ObserveLaws
pub mod ObserveCallLaws
