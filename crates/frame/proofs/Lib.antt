pub mod ClassLaws
pub mod BlockLaws
pub mod WireLaws
pub mod RangeLaws
pub mod RuleLaws
