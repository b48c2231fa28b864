pub mod Refusals
pub mod Bounds
pub mod WorthKept
pub mod Within
pub mod Whole
