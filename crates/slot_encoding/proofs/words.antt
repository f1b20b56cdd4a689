-- Lists, words and scopes: what differs, what can be printed, what is in force.
pub mod Lists
pub mod PlainWords
pub mod TableWords
pub mod Scopes
-- A table that has all words has those of each part.
pub mod KnownWords
pub mod KnownMethods
pub mod TableBounds
-- Types, objects and predicates of the printed problem.
pub mod PrintedWords
pub mod TypeWords
pub mod ObjectNames
pub mod PlanParts
pub mod CheckNames
pub mod GuardWords
pub mod PredicatePlaces
pub mod PredicateNames
-- Formulas and effects: those of the source behind slots, and those on slots.
pub mod SourceFormulas
pub mod SourceEffects
pub mod SoundEquations
pub mod SlotScopes
pub mod SlotParts
pub mod ActionParts
-- Actions, initial atoms and the goal.
pub mod Works
pub mod Methods
pub mod ActionNames
pub mod ActionsSound
pub mod Beginning
-- All put together, what is read off a printable value, and a worked row.
pub mod EncodedIsPrintable
pub mod PrintedDiffer
