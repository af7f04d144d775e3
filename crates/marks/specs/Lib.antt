pub mod Freeing
pub mod Unmarked
