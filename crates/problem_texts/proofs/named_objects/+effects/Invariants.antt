use Rattle.std.proofs.Common.{◌≡◌, map, take}
use Rattle.slot_encoding.specs.encoded_texts.NamedObjects.{greatest, of_effect}
use Rattle.problem_texts.proofs.named_objects.+effects.Given as goal

abbrev pub invariant-by_effects-loop-effect : goal.invariant-by_effects-loop-effect
invariant-by_effects-loop-effect l = l.most ≡ greatest (map of_effect (take l.effect-index l.effects))
