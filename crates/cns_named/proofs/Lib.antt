pub mod LineLemmas
pub mod MadeLemmas
