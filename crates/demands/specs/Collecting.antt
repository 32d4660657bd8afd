pub mod Seen
pub mod Open
pub mod Told
pub mod Openings
