pub mod Right
pub mod Faults
pub mod Refusals
pub mod Report
pub mod Lines
pub mod Outcomes
pub mod Draft
