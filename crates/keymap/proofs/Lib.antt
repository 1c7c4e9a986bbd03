-- Laws on what is told to C.
pub mod Numbers
pub mod Size
pub mod Parts
