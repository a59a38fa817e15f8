pub mod ValueLaws
pub mod WidthLaws
pub mod ReadLaws
pub mod UseLaws
pub mod FirstFailing
pub mod SoundLaws
pub mod RuleOrder
pub mod GroupLaws
pub mod NameWalk
pub mod OrderLaws
pub mod EnableLaws
mod Enabled
pub mod WithoutEnable
