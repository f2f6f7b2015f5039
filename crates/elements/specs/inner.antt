pub mod Largest
pub mod Placing
