pub mod Report
pub mod Pass
pub mod Lent
