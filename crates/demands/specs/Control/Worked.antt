-- Worked cases of the control point, with the state after each: each file covers all that its first line names.
pub mod Seen
pub mod Modes
pub mod Ends
pub mod Openings
pub mod Callers
pub mod Courses
pub mod Needs
pub mod Orders
pub mod Coasting
pub mod Stepped
