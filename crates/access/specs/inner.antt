pub mod Past
pub mod Spots
