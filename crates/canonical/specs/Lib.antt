pub mod Equality
pub mod Normal
pub mod inner
