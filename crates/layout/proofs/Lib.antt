pub mod Laws
pub mod Tests
pub mod Cases
pub mod First
pub mod Stops
pub mod Exact
pub mod Laying
pub mod Worked
