pub mod JobLaws
pub mod Lines
