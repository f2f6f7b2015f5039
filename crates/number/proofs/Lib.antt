pub mod Reading
pub mod Writing
pub mod Inverse
pub mod Complement
pub mod Pattern
