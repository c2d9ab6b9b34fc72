-- A scratch that is long enough, and that the contract over it determines its outcome.
pub mod Long
pub mod Only
