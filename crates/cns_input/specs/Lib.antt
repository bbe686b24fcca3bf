pub mod Reading
pub mod Sections
pub mod Words
pub mod Script
pub mod Status
