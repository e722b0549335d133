pub mod Gathering
pub mod Marking
pub mod Empties
pub mod Repeat
pub mod Once
