pub mod Arity
pub mod Contents
pub mod Steps
