-- What a text comes to in lent bytes.
pub mod View
