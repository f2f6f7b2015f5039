pub mod History
pub mod Cases
