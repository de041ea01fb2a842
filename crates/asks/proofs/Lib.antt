pub mod RestLaws
pub mod GroupLaws
pub mod AskLaws
pub mod MadeLaws
