pub mod ControlLaws
