pub mod History
pub mod Rows
pub mod Undue
pub mod Positions
pub mod Totals
pub mod Book
