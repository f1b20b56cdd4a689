use Rattle.std.proofs.Common.{◌≡◌, map, take}
use Rattle.slot_encoding.specs.encoded_texts.NamedObjects.{greatest, of_fact}
use Rattle.problem_texts.proofs.named_objects.named_by_facts.Given as goal

abbrev pub invariant-loop-i : goal.invariant-loop-i
invariant-loop-i l = l.most ≡ greatest (map of_fact (take l.i l.facts))
