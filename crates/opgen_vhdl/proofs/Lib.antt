pub mod FrontLemmas
pub mod CutLemmas
pub mod SpanLemmas
pub mod Times3
mod EnabledThird
mod OneSignal
pub mod Steps
pub mod Expressions
pub mod Takes
pub mod Walks
