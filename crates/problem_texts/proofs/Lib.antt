mod Ended
mod Putting
mod LowerParts
mod Styles
mod FewSlots
mod Greatest
mod OnLine
pub mod flat
pub mod examples
