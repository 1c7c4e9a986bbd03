-- The calls' laws, each stated once; a function's folder hands its paths to them.
pub mod Calls
