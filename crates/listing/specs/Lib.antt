pub mod Lines
pub mod Listing
pub mod Steps
pub mod Samples
pub mod Kinds
pub mod Beside
