pub mod BracketLemmas
pub mod ReadLemmas
pub mod SectionLemmas
pub mod CommandLemmas
