pub mod Session
pub mod Printed
pub mod Memory
pub mod Course
pub mod WholeInput
pub mod Document
