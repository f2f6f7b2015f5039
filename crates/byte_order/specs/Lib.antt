pub mod Reversal
pub mod inner
