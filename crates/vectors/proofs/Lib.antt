-- Laws of the vectors, and that each public contract determines its answer.
pub mod MedianLaws
pub mod Wraps
pub mod Sides
pub mod Only
