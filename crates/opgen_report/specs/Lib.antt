-- Definitions of opgen_report: the text of a report.
pub mod Report
