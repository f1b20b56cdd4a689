-- How a printed state reads.
pub mod StackReading
-- Each printed action is a step of the stack and of the source.
pub mod StackFacts
pub mod CellAtoms
pub mod CellChanges
pub mod Falling
pub mod Fallen
pub mod TipActions
pub mod Asked
pub mod ChildCells
pub mod Climbing
pub mod ClimbingEffects
pub mod MethodStates
pub mod TipMethods
-- Runs and plans.
pub mod TipRuns
pub mod TipPlans
pub mod KnownActs
