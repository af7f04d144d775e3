pub mod Theorems
pub mod UndoCircuit
