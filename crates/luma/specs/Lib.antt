pub mod Luma
pub mod Average
