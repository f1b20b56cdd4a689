use Rattle.std.proofs.Common.{◌≡◌, map, take}
use Rattle.slot_encoding.specs.encoded_texts.NamedObjects.{greatest, of_object}
use Rattle.problem_texts.proofs.named_objects.named_by_objects.Given as goal

abbrev pub invariant-loop-j : goal.invariant-loop-j
invariant-loop-j l = l.most ≡ greatest (map of_object (take l.j l.objects))
