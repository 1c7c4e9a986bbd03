-- Laws that belong to no one function: lists behind a count, how long a map file is, and that what is put is what is sent.
pub mod Lists
pub mod Sent
pub mod Few
