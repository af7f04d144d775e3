pub mod AreaLaws
pub mod BitLaws
pub mod ByteLaws
pub mod FillLaws
pub mod ListLaws
pub mod ShownLaws
pub mod SumLaws
