pub mod EditLaws
