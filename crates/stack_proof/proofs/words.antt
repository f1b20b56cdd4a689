-- Words of objects and of actions.
pub mod Cells
pub mod CellWords
pub mod ActionNames
-- Each applicable step is that of one act.
pub mod Rows
pub mod Lines
pub mod StepWords
pub mod StepActs
-- The first state, and source conditions and effects.
pub mod FirstGuards
pub mod FirstState
pub mod SourceMeanings
-- All put together for a printed problem.
pub mod StackPlans
