-- Laws: networks of compiled problems, executable lists, the bound.
pub mod Pairs
pub mod MethodParts
pub mod CompiledNetworks
pub mod ClassicalLaws
pub mod FailingLaws
pub mod BlockNumbers
pub mod BoundParts
pub mod BoundIsOne
pub mod BoundLaws
pub mod EdgesInOrder
-- Truth and effects, worked out.
pub mod TruthEquations
pub mod EffectEquations
pub mod ListedItems
pub mod EachPart
pub mod Once
pub mod SameStates
pub mod examples
