pub mod Grammar
pub mod Rules
pub mod Report
pub mod Decide
pub mod Reading
