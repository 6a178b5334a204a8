pub mod Every
pub mod Vector
pub mod Numbers
pub mod Tests
