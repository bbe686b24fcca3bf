pub mod KeptLemmas
pub mod SectionLemmas
pub mod ScriptLemmas
pub mod TextLemmas
pub mod CleanLemmas
pub mod RepeatLemmas
pub mod MendedLemmas
