-- How a printed state reads.
pub mod Reading
pub mod SourceEffects
pub mod SourceMeanings
pub mod GuardAtoms
-- Words of objects and of steps.
pub mod ObjectWords
pub mod ActionWords
pub mod StepWords
pub mod FirstSlot
pub mod Atoms
pub mod Freed
pub mod Split
-- Each printed action is a step of the machine and of the source.
pub mod Facts
pub mod Freeing
pub mod Running
pub mod SlotVariables
pub mod MethodConditions
pub mod MethodEffects
pub mod MethodChildren
pub mod Methods
-- Runs, plans and the words of their steps.
pub mod Starts
pub mod Runs
pub mod Plans
pub mod KnownActs
pub mod Words
-- All put together for a sound problem; the bound; worked rows.
pub mod Fits
pub mod PrintedMeans
pub mod Bounds
