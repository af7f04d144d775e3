pub mod WordBits
pub mod WordValues
