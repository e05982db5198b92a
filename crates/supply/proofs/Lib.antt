pub mod PositionLaws
pub mod SupplyLaws
pub mod PieceLaws
pub mod PartitionLaws
pub mod WalkLaws
pub mod SummaryLaws
pub mod TableLaws
