pub mod Reversing
pub mod RunTurns
pub mod Widths
pub mod Chained
