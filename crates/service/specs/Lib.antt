pub mod Collector
pub mod Control
