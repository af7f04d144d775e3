pub mod LinePoolLaws
