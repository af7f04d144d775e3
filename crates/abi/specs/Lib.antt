pub mod Exported
pub mod Steps
