pub mod Steps
pub mod Promises
pub mod Standing
pub mod Filling
