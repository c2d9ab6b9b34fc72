pub mod Median
pub mod Predict
pub mod Partition
