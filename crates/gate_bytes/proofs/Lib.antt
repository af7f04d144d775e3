pub mod ByteLaws
pub mod GateLaws
pub mod ReadBackLaws
