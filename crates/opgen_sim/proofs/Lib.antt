pub mod Cycles
mod RankLaws
pub mod OutputDepth
pub mod TableLaws
pub mod Ports
pub mod Runs
pub mod PortWidths
pub mod RunRows
mod RowRuns
mod Progress
