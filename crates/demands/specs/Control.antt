-- The control point over sequences of calls.
pub mod Point
pub mod Laws
pub mod History
pub mod Runs
pub mod Cases
pub mod Worked
pub mod Rules
pub mod Answered
pub mod Increments
