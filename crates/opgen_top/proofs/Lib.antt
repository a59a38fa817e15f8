pub mod Taken
pub mod Serving
pub mod Recovering
pub mod Planning
pub mod Naming
mod Made
mod NetsFit
mod AdderValues
pub mod Building
pub mod Parts
pub mod Names
pub mod Listed
pub mod SpecCases
pub mod Chosen
pub mod Outcomes
pub mod Refusing
pub mod PreparingSpecs
pub mod PreparingRuns
pub mod PreparingChecks
pub mod RunRows
pub mod Unfetched
pub mod Columns
pub mod SomePort
pub mod ServedPorts
pub mod Holding
pub mod Storing
pub mod Ending
pub mod Reported
pub mod Puts
pub mod Heading
pub mod Working
pub mod Judging
