pub mod Format
pub mod Programs
pub mod Reading
pub mod Tables
pub mod Theorems
