pub mod CallLaws
pub mod FrontLaws
pub mod JoinLaws
pub mod OneResult
pub mod MoveLaws
