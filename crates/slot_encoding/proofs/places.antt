pub mod Places
-- Types: chains of parents, and the objects of a type.
pub mod TypeChains
pub mod ListPlaces
pub mod ObjectPlaces
pub mod PrintedTypes
pub mod SoundTypes
pub mod WellWorded
pub mod ObjectTypes
-- The formulas on order pairs, and source formulas and effects.
pub mod SourceFormulas
-- Predicates and guards.
pub mod Predicates
pub mod KeptItems
pub mod Guards
pub mod ActionPlaces
-- How a printed state reads, and the two changes of it: a slot is freed, a task is split.
pub mod Sums
pub mod Splitting
