pub mod Lines
pub mod Putting
