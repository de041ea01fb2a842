pub mod Answer
pub mod Accepted
pub mod Call
pub mod After
pub mod Report
pub mod Meets
