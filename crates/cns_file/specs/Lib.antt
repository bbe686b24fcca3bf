pub mod Copy
pub mod Cut
pub mod Records
pub mod Tail
