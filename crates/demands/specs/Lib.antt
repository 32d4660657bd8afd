pub mod Behaviour
pub mod Demands
pub mod Back
pub mod Control
pub mod Cases
pub mod Splitting
pub mod Collecting
