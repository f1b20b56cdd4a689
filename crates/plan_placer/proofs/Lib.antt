-- Histories that grow by actions, and how the parts of a placement meet.
pub mod Histories
pub mod Relabelled
pub mod GapFunctions
pub mod Scheduled
pub mod StepLabels
pub mod Refusals
pub mod Placed
pub mod Worlds
