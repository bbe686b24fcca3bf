pub mod NumberLemmas
pub mod CusipLemmas
pub mod HoldingLemmas
pub mod HoldingOrder
pub mod ShareLemmas
pub mod ListLemmas
