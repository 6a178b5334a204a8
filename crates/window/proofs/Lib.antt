pub mod Bits
pub mod Handed
pub mod Sound
pub mod Computed
pub mod Edges
