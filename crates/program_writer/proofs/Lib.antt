pub mod BodyFileLaws
