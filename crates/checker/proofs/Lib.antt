pub mod GroupLaws
pub mod CycleLaws
pub mod DemandLaws
pub mod MarginLaws
pub mod RiseLaws
pub mod StretchLaws
pub mod VerdictLaws
pub mod BoundLaws
