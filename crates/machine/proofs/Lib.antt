pub mod CompareLaws
pub mod OrderLaws
pub mod RuleLaws
pub mod CodeLaws
