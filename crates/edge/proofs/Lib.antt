-- Laws of the count, and that the public contract determines its answer.
pub mod Count
pub mod Only
