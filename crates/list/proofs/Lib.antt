pub mod CaseLaws
pub mod CompiledLaws
pub mod PrintedLaws
