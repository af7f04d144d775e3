pub mod Areas
pub mod Ascii
pub mod Bits
pub mod Bytes
pub mod Limits
pub mod Lists
pub mod Shown
