-- Laws over lists, words and the rules' definitions, each stated once; a function's folder hands its paths to them.
pub mod Lists
pub mod Sequences
pub mod Pushes
pub mod Modes
pub mod Calls
