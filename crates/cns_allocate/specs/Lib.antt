pub mod Group
pub mod Plan
pub mod Grants
pub mod Served
pub mod Deliveries
pub mod Serving
pub mod Waiting
pub mod WereLong
