pub mod SettleLaws
pub mod RunLaws
