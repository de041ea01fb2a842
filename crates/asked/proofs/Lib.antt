pub mod AskedLaws
pub mod JoinLaws
pub mod CallLaws
pub mod AskLaws
pub mod ReportLaws
pub mod MoveLaws
pub mod OneResult
