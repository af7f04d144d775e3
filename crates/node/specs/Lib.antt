pub mod Exprs
pub mod Kinds
pub mod NodeBytes
pub mod Nodes
pub mod Steps
pub mod Trees
