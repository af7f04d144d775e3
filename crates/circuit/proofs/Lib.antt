pub mod AcceptedLaws
pub mod ControlOrderLaws
pub mod FileLaws
pub mod FormatLaws
pub mod GateBodyLaws
pub mod ReadingLaws
