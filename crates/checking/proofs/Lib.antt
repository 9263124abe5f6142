pub mod FollowLaws
pub mod TableLaws
