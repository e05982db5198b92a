pub mod FaultLaws
pub mod WindowLaws
pub mod TaskLaws
pub mod CursorLaws
