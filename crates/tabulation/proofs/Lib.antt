pub mod Items
pub mod Resuming
