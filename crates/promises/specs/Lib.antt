pub mod Exact
pub mod Bound
pub mod Made
pub mod Determined
