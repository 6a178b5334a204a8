pub mod Zeros
pub mod Lowest
pub mod Pieces
pub mod Slots
pub mod Holding
