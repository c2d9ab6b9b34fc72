-- Laws of the plain luma route, and that its contracts determine their outcomes.
pub mod Bridge
pub mod Reach
pub mod Only
