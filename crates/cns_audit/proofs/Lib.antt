pub mod CheckLemmas
pub mod LeastLemmas
pub mod NoneLemmas
pub mod RowLemmas
