pub mod Order
pub mod Token
pub mod Walk
pub mod Answers
pub mod inner
