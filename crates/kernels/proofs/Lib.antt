-- Laws that proofs of this crate cite.
mod Phases
mod Turns
