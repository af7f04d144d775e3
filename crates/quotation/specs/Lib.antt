pub mod Agreement
pub mod Quoting
