pub mod Table
pub mod Layout
pub mod Given
pub mod Survey
pub mod Nodes
