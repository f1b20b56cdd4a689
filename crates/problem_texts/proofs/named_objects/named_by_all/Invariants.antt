use Rattle.std.proofs.Common.{◌≡◌, map, take}
use Rattle.slot_encoding.specs.encoded_texts.NamedObjects.{greatest}
use Rattle.problem_texts.proofs.named_objects.named_by_all.Given as goal

abbrev pub invariant-loop-item : goal.invariant-loop-item
invariant-loop-item g l = l.most ≡ greatest (map g.T.NamesObjects.named (take l.item-index l.items))
