-- Laws that belong to no one function.
pub mod Edges
pub mod Finds
pub mod Links
pub mod Members
pub mod Passes
pub mod Remembered
pub mod Stores
