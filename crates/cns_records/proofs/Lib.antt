pub mod FieldLemmas
pub mod FieldLaws
pub mod RecordLemmas
pub mod DrawnLaws
pub mod ClearLaws
pub mod DepLaws
pub mod CallLemmas
