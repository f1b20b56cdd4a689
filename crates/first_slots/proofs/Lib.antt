-- The value, over that with any free slots.
pub mod Plain
-- Its further facts and conditions.
pub mod Less
pub mod LowestTrue
-- Its steps and plans.
pub mod Steps
pub mod Plans
-- Every value of the source texts.
pub mod Same
pub mod Headlines
pub mod Texts
pub mod examples
