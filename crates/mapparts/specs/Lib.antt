-- What the answers of the file's readers and of its writer mean, in the values of the rules.
pub mod View
