pub mod Written
pub mod Shown
pub mod Numbered
pub mod Tabulated
pub mod Machine
pub mod Draft
pub mod Flat
pub mod Means
