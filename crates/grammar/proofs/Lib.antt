pub mod CaseLaws
pub mod CountLaws
pub mod OrderLaws
pub mod ValueLaws
