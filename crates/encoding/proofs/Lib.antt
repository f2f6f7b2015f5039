pub mod Slices
pub mod Lengths
pub mod AllBytes
pub mod Stamps
pub mod Sound
pub mod Complete
pub mod Accepted
