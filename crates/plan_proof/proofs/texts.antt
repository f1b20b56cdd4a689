pub mod Truths
pub mod Changes
pub mod SpelledSound
pub mod TypeWords
pub mod SamePlans
pub mod SameFailures
pub mod PrintedPlans
