-- Laws of the lookups and blocks of half-sample planes, that the public contracts determine their outcomes, and that planes as built give the standard's samples.
pub mod Answer
pub mod Laws
pub mod Only
pub mod Tails
pub mod Standard
pub mod Views
