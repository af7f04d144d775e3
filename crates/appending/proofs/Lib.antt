pub mod CopyLaws
pub mod ReverseLaws
pub mod StoredLaws
