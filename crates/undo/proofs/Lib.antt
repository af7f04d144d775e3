pub mod UndoLaws
pub mod UndoneLaws
