pub mod ExtentLemmas
pub mod TailLemmas
