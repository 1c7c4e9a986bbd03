-- What the words and the declared types mean in the values of the rules.
pub mod View
pub mod Pass
pub mod Props
