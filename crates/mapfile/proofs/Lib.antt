-- Laws that belong to no one function: what is read and then added is the rules' reading of the whole file; pairs are written one
-- behind another; keys are played one after another; a run comes to what C is told; and a written number is read back.
pub mod Round
pub mod Bindings
pub mod PairBytes
pub mod Playing
pub mod Runs
