pub mod Filled
pub mod InRow
pub mod Single
pub mod Listing
pub mod Same
pub mod Chaining
pub mod Joined
