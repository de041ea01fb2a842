pub mod Cases
pub mod LineChanges
pub mod TwoSwitches
pub mod Asks
pub mod Churn
