pub mod Appending
pub mod Reversing
