use Rattle.std.proofs.Common.{◌≡◌, ◌++◌, map, take}
use Rattle.slot_encoding.specs.slot_declarations.Pieces.{printed_parent}
use Rattle.slot_encoding.proofs.slot_declarations.types.parents.Given as goal

abbrev pub invariant-loop-pair : goal.invariant-loop-pair
invariant-loop-pair l = l.into ≡ l.initial.into ++ map (printed_parent) (take l.pair-index l.pairs)
