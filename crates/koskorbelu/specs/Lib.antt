pub mod Demands
pub mod Face
