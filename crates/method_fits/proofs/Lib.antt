-- What a method's task and subtasks tell of its values.
pub mod Steps
pub mod FitLaws
