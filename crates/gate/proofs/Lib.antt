pub mod AllLaws
pub mod ControlOrderLaws
pub mod OrderCase
pub mod StepLaws
pub mod ToffoliLaws
pub mod UncomputeLaws
pub mod WellFormedLaws
