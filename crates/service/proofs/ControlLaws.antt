-- What the proofs of the control point share.
pub mod Rule
pub mod Fits
pub mod Boxes
pub mod Steps
pub mod Answers
