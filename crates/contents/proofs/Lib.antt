pub mod ContentsLaws
pub mod WrittenLaws
