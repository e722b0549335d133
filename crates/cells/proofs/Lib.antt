pub mod Frame
pub mod Making
pub mod Writing
