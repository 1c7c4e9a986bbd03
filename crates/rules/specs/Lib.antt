-- Document 01 as definitions, a file for each of its sections and in its order. Each file's first comment names its section.
-- OnePass: following in one pass, of document 02's request (iii). Writing: the map file that its request (i) writes.
pub mod Basics
pub mod Values
pub mod Tables
pub mod Graph
pub mod OnePass
pub mod KeyLoop
pub mod Calls
pub mod ListReader
pub mod Numbers
pub mod MapFile
pub mod Run
pub mod Writing
