-- What the words of kept calls mean.
pub mod View
