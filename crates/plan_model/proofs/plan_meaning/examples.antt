pub mod TruthExamples
-- What worked rows are proved with.
pub mod Unequal
pub mod FlatNetworks
pub mod RowValues
pub mod RowWords
pub mod RowChecks
-- Rows: solutions and spellings.
pub mod SmallestRow
pub mod EmptyRow
pub mod TailRecursionRow
pub mod AllObjectsRow
pub mod AllObjectsSolution
pub mod SlotTakenRow
pub mod SlotTakenTwice
pub mod WaitingRow
pub mod LateCheckRow
pub mod TestedMethodRow
pub mod FreeVariableRow
pub mod GuardRow
pub mod TransportValue
pub mod TransportOrder
pub mod TransportRow
-- Rows: edges, cycles and bounds.
pub mod EdgeChecks
pub mod BoundChecks
pub mod TailRecursionBound
pub mod BlocksRow
pub mod NamedCyclesRow
pub mod TwoBoundsOfThree
pub mod TransportBound
-- Rows: compiled values.
pub mod PlanChecks
pub mod PlanKinds
pub mod CompiledRows
pub mod CompiledValues
pub mod TransportCompiled
-- Rows: classical plans and printed problems.
pub mod ClassicalExamples
