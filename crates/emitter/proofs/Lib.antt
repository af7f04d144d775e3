pub mod FollowLaws
pub mod WriteLaws
