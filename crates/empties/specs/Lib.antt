pub mod Empties
pub mod Pass
