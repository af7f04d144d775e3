pub mod RunCircuit
pub mod Theorems
