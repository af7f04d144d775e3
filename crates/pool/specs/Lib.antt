pub mod LinePools
