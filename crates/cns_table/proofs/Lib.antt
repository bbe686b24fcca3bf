pub mod RunLemmas
pub mod RowLemmas
