pub mod Topmost
pub mod Gathered
pub mod Answering
