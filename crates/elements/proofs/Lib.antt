pub mod Maxima
pub mod Placing
pub mod Keeping
