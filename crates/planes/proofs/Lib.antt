-- Laws of the half-sample planes, that they are the standard's, and that the public contracts determine their outcomes.
pub mod Laws
pub mod Only
pub mod Standard
