pub mod ShareLoop
pub mod WriteLaws
