-- The control point of document 01.
pub mod Parameters
pub mod OpCodes
pub mod Ranges
pub mod Counted
pub mod SpinDown
pub mod Machine
pub mod Judging
pub mod Effects
pub mod Console
pub mod Replies
pub mod Calls
pub mod Samples
