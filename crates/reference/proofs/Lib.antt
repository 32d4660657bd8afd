mod Bits
mod Capitals
mod Lengths
pub mod Lines
pub mod Once
