-- A measure that falls, room and truth, by the kinds of formulas.
pub mod Sizes
pub mod RoomEquations
pub mod TruthCases
pub mod Found
pub mod Lists
pub mod StateLaws
pub mod Denials
pub mod EffectSizes
pub mod GatherCases
pub mod PassLaws
pub mod DomainLaws
pub mod NeedLaws
pub mod ArgumentLaws
pub mod RunLaws
pub mod DomainCases
