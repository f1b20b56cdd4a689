-- What is encoded over two tables that have all words says the same: objects and predicates, actions, all.
pub mod StackSaidParts
pub mod StackSaidActions
pub mod StackSame
