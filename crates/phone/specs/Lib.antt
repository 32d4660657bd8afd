pub mod Host
pub mod Samples
