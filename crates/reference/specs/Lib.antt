pub mod Tables
pub mod Header
pub mod Samples
