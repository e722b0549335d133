pub mod Version
pub mod Stored
pub mod WellFormed
pub mod Nested
pub mod ReadBack
pub mod Scratch
