pub mod BodyLaws
pub mod CompileLaws
pub mod SizedLaws
