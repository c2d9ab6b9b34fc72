-- Laws of the plain chroma route, and that its contract determines its outcome.
pub mod Bridge
pub mod Reach
pub mod Only
