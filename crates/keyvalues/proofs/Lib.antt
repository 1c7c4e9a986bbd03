-- Laws that belong to no one function.
pub mod Words
pub mod Lists
pub mod Nodes
pub mod Ranges
pub mod Maps
pub mod Settled
