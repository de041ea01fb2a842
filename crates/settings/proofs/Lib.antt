pub mod SettingsLaws
pub mod StandingLaws
pub mod RangeLaws
pub mod RuleLaws
