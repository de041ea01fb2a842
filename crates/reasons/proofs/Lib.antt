pub mod FoundLaws
pub mod OneResult
