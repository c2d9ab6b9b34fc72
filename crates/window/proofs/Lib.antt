-- Laws that proofs of this crate and of the crates above it cite.
pub mod Tests
pub mod Bridge
pub mod Standard
