pub mod Entry
pub mod Places
pub mod Sound
pub mod Words
