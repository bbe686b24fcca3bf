pub mod Frame
pub mod ReadFrame
pub mod Packet
