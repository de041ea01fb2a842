pub mod Churn
pub mod Group
pub mod Whole
pub mod Rest
