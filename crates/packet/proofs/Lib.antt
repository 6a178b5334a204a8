pub mod Formed
pub mod Writable
pub mod Told
pub mod Laid
pub mod RoundTrip
pub mod Settled
pub mod PointNumbers
