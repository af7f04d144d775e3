pub mod CountListLaws
