pub mod Value
pub mod Pieces
pub mod Refusals
