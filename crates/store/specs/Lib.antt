pub mod Book
pub mod Layout
pub mod Check
pub mod Questions
pub mod inner
