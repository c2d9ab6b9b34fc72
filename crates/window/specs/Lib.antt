pub mod Padded
pub mod Area
