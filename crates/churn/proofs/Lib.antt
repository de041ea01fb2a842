pub mod WholeLaws
pub mod RestLaws
pub mod ChurnLaws
pub mod MadeLaws
