pub mod Lookup
pub mod Answer
pub mod Reading
