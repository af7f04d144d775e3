pub mod AreaGates
pub mod Tables
