pub mod SharedLaws
