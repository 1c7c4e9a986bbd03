-- What is proved of the rules. Table, Examples and Rows: runs that compute. Numbers: reading and writing. Demand3: the graph
-- machine and the list reader agree; the files above it, from Tests on, are its lemmas. PlainCalls: which calls it is about.
-- Facts: edges, kept calls, stack, popping, refusals; the files above it, from Grown on, are its lemmas.
-- Find: what find gives, said without computing it. Counting: digits count to their number, or one is refused. Counts: a count
-- that was typed or not, as a number. Untyped: a count that was not typed is 0; Contexts, above it, has its lemmas. Hint: the
-- nodes that calls made, and those that are left. OnePass: one pass through the edges is following; Ranks has its lemmas.
-- RoundTrip: a written map is read, and a map that was read is written; the files above it, from Formats on, are its lemmas.
-- Changes: what a change of map comes to.
pub mod Table
pub mod Examples
pub mod Rows
pub mod Numbers
pub mod Tests
pub mod Results
pub mod Simulation
pub mod Runs
pub mod Places
pub mod Edges
pub mod Represents
pub mod Following
pub mod Adding
pub mod Demand3
pub mod Grown
pub mod Weights
pub mod Rounds
pub mod PlainCalls
pub mod Refusals
pub mod Reached
pub mod Facts
pub mod Find
pub mod Counting
pub mod Counts
pub mod Contexts
pub mod Untyped
pub mod Hint
pub mod Ranks
pub mod OnePass
pub mod Formats
pub mod Kept
pub mod FileFormats
pub mod RoundTrip
pub mod Changes
