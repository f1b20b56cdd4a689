use Rattle.std.proofs.Common.{◌≡◌, ◌++◌, map, take}
use Rattle.slot_encoding.specs.slot_declarations.Made as made
use Rattle.slot_encoding.proofs.slot_declarations.types.type_names.Given as goal

abbrev pub invariant-loop-name : goal.invariant-loop-name
invariant-loop-name l = l.into ≡ l.initial.into ++ map (made.renamed l.frame) (take l.name-index l.later)
