-- Definitions of opgen_workload: the filter that is made from a number, and how many cycles of its run are good.
pub mod Filter
pub mod Judged
