pub mod Passing
pub mod Walks
pub mod Checking
pub mod Arounds
