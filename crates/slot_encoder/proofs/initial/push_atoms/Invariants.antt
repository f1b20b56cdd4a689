use Rattle.std.proofs.Common.{◌≡◌, ◌++◌, map, take}
use Rattle.slot_encoding.specs.EncodedValue as spec
use Rattle.slot_encoder.proofs.initial.push_atoms.Given as goal

abbrev pub invariant-loop-object : goal.invariant-loop-object
invariant-loop-object l = l.into ≡ l.initial.into ++ map (spec.atom l.predicate) (take l.object-index l.objects)
