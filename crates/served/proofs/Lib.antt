-- Laws of the tests that the calls of the half-sample planes make.
pub mod Laws
