-- Definitions of opgen_pipe: copies, signals, drivers and ports of the design of a net at a schedule, its laws, plans, their
-- placing and their
-- timing.
pub mod Times
pub mod Copies
pub mod Standings
pub mod Reading
pub mod Pipelined
pub mod Laws
pub mod Zeros
pub mod Counts
pub mod Cells
pub mod Placed
pub mod Planned
pub mod Layouts
pub mod Timed
