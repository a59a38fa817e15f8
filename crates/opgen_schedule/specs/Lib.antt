-- Definitions of opgen_schedule: what nodes read, schedules that fit a period, the schedule of one pass and its laws, the timing
-- graph, and the proposals of cycles for few registers.
pub mod Reads
pub mod Schedule
pub mod Stage
pub mod Laws
pub mod Graph
pub mod Fitting
pub mod Moves
pub mod Frames
