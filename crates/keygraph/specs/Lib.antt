-- What the steps of a cursor come to in the values of the rules.
pub mod Making
