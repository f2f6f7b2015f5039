pub mod FieldSteps
pub mod Members
pub mod Rests
