pub mod Data
pub mod Names
pub mod Searching
pub mod Picking
pub mod Tops
