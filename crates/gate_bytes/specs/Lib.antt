pub mod GateBytes
pub mod Steps
