pub mod Answers
pub mod Automaton
pub mod States
