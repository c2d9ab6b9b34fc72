-- That the five contracts determine their outcomes.
pub mod Only
