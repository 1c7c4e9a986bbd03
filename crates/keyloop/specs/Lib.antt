-- What the code's words and types mean in the values of the rules.
pub mod Stack
pub mod View
