pub mod Check
pub mod Given
pub mod Examine
pub mod Search
