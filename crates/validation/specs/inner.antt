pub mod Rest
pub mod Judging
