pub mod NumberLaws
pub mod TaskLaws
pub mod SumLaws
pub mod FlatLaws
pub mod AlikeLaws
