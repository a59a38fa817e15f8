pub mod Building
pub mod Classical
pub mod Numbering
pub mod SomeAdderSet
pub mod SomeListing
pub mod SomeNet
pub mod SomeRanks
pub mod RestingMultiples
pub mod OneGraph
pub mod FirstCause
pub mod OneReadingOfRows
pub mod OneProductNet
pub mod OneSopNet
mod WholeCoefficients
pub mod Aligning
pub mod OneRow
