pub mod Members
pub mod Names
pub mod Chains
pub mod Joining
