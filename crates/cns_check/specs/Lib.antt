pub mod Mended
pub mod Findings
pub mod Kept
pub mod Clean
pub mod Repeats
