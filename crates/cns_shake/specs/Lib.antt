pub mod Shake
