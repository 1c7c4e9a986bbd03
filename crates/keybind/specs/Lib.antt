-- What a map means.
pub mod View
