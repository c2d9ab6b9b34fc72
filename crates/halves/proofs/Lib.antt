-- Laws that proofs of this crate cite.
mod Places
