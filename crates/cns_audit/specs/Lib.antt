pub mod Check
pub mod Compare
pub mod Least
pub mod Opened
pub mod Register
pub mod Rows
