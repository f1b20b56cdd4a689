-- Over any list of edges: reaching, ranks, the cycle that is named.
pub mod Decided
pub mod Reach
pub mod Ranks
pub mod NamedCycle
pub mod MappedWalks
-- Over any network: blocks, numbers.
pub mod Groups
pub mod Blocks
pub mod LastBlock
pub mod FallingRanks
-- Over any finite network: its edges, its cycles, its bound.
pub mod Sorted
pub mod FiniteEdges
pub mod FiniteBound
pub mod OneBound
-- Of a compiled problem, whose network of schemas is finite.
pub mod Lines
pub mod ProblemEdges
pub mod SchemaNetwork
pub mod SchemaEdges
pub mod OneCycle
pub mod OrCycle
pub mod EveryFront
pub mod ProblemBound
pub mod BoundedProblem
pub mod examples
