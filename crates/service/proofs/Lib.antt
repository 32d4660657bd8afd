pub mod Lowest
pub mod Sentence
pub mod Joining
pub mod Said
pub mod CollectorOnce
pub mod ControlLaws
pub mod ControlOnce
