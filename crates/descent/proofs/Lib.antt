pub mod FactorLaws
pub mod JoinLaws
