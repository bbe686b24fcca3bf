pub mod RowLemmas
pub mod CoverLemmas
pub mod BoundLemmas
pub mod TotalLemmas
