pub mod ColumnTurns
pub mod Elements
pub mod Blocks
pub mod Numbers
pub mod EvenTypes
