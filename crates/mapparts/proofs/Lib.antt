-- Laws that belong to no one function: how the rules' number goes by bytes, reading as many elements as a count says, numbers
-- written one behind another, what lists in arrays mean, that what is read of the tables is in range, and the keys of a run.
pub mod NumberBy
pub mod Reading
pub mod Writing
pub mod Parts
pub mod Ranges
pub mod KeyBytes
