pub mod Tokens
pub mod Remaining
pub mod Pieces
pub mod Parts
pub mod EvenWalks
