pub mod SmallestPlan
pub mod SoundChecks
pub mod SmallestFaithful
pub mod WaitingRefuted
pub mod GuardRefuted
pub mod RowPlans
pub mod RowPlansTransport
pub mod RowPlansRefused
pub mod RowPlansOnly
pub mod RowPlansGoal
pub mod SmallestWords
-- Why the conditions are there.
mod CheckOfTop
mod WideNumbers
pub mod RenamedRow
