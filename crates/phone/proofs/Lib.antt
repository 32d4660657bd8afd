pub mod HostOnce
pub mod Whole
pub mod ReadFormed
