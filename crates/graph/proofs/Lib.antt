pub mod KindLaws
pub mod DecodeLaws
pub mod FollowLaws
pub mod ReaderLaws
