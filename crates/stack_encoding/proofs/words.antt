-- Lists put together of several; what a table with all words has, and that it has few numbered ones.
pub mod Appended
pub mod KnownParts
pub mod KnownEach
pub mod FewCells
-- The words that are declared: objects, predicates.
pub mod StackDeclared
pub mod CellNames
pub mod PredicateWords
-- Actions: their names.
pub mod StackActionNames
-- Their variables: cells, and behind them those of the source.
pub mod StackScopes
pub mod StackFronts
-- What is sound among them.
pub mod StackMethodParts
pub mod StackActionsSound
-- Initial atoms and the goal; all put together.
pub mod StackBeginning
pub mod StackIsPrintable
