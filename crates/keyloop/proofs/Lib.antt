-- The key loop's laws, each stated once; a function's folder hands its paths to them.
pub mod Turns
pub mod Walks
pub mod Navigators
pub mod PutBack
pub mod Weighed
pub mod Loop
