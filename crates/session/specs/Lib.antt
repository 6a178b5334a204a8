pub mod Events
pub mod Protocol
pub mod Library
