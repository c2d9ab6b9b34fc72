-- Laws that proofs of this crate and of the crates above it cite.
pub mod Runs
