pub mod FrameLemmas
pub mod ReadLemmas
