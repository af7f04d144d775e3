pub mod FilledLaws
pub mod NodeLaws
pub mod TreeLaws
pub mod ValueLaws
pub mod WrittenLaws
