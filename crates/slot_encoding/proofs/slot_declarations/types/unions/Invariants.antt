use Rattle.std.proofs.Common.{◌≡◌, map, take}
use Rattle.slot_encoding.specs.SourceParts as parts
use Rattle.slot_encoding.proofs.slot_declarations.types.unions.Given as goal

abbrev pub invariant-loop-types : goal.invariant-loop-types
invariant-loop-types l = l.into ≡ map (map parts.retyped) (take l.types-index l.unions)

abbrev pub invariant-loop-ty : goal.invariant-loop-ty
invariant-loop-ty l = l.union ≡ map parts.retyped (take l.ty-index l.types)
