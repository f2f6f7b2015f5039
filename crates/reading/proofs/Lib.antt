pub mod Values
pub mod Signs
pub mod Readings
