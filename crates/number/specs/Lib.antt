pub mod Endian
pub mod Signed
pub mod Float
pub mod inner
