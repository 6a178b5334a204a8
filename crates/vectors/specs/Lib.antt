pub mod Vectors
pub mod Bytes
