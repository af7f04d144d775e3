pub mod ControlOrder
pub mod Gates
pub mod Running
pub mod Theorems
