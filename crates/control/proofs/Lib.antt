pub mod CallLaws
pub mod CountLaws
pub mod OneResult
pub mod RuleLaws
pub mod DueLaws
