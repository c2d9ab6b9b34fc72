-- That the contract over the lent scratch determines its outcome.
pub mod Only
