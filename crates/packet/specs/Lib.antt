pub mod Packet
pub mod Points
pub mod Reading
pub mod Writing
