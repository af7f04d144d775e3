pub mod Circuits
pub mod Format
pub mod Reading
pub mod Theorems
