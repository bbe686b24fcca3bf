pub mod Fields
pub mod Drawn
pub mod Clear
pub mod Instruction
pub mod Dep
pub mod Refusals
pub mod Call
