pub mod Kinds
pub mod Counts
pub mod Tally
