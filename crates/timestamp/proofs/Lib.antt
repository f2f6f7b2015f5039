pub mod Bits
pub mod Gaps
pub mod Taking
pub mod Exact
