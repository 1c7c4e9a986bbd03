-- Laws that belong to no one function: where what was put ends, and a number's digits; a line from its parts; pairs that are read
-- back; what an input comes to; the longest text; and what a program answers.
pub mod Putting
pub mod Lined
pub mod Finding
pub mod Texts
pub mod Longest
pub mod Serving
