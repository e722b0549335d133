pub mod ByKind
pub mod Searching
pub mod Exact
pub mod Accepting
pub mod Worked
