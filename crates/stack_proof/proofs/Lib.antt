-- A state of the printed problem reads as one of the stack.
pub mod machine
-- The words of its actions, objects and steps.
pub mod words
-- Lists of steps, and the fronts that they spell.
pub mod Spelled
-- Every value of the source texts.
pub mod texts
