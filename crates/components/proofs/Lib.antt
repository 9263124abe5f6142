pub mod MeetLaws
pub mod CollectLaws
pub mod GatherLaws
pub mod TurnLaws
pub mod FlagLaws
pub mod StartLaws
