pub mod LineLemmas
pub mod CountLemmas
pub mod TallyLemmas
