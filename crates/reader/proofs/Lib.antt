pub mod Starting
pub mod Finishing
pub mod Turning
pub mod Choosing
pub mod Exact
