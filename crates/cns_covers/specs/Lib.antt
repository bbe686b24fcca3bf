pub mod Settings
pub mod Exemptions
pub mod Priorities
pub mod Covers
pub mod Bounds
