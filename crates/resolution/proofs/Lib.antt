pub mod Ends
pub mod Walking
pub mod Named
pub mod Apart
pub mod Seeking
pub mod Chosen
pub mod Planned
