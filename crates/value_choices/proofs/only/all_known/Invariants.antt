use Rattle.std.proofs.Common.{◌≡◌, map, take, Some}
use Rattle.value_choices.proofs.only.all_known.Given as goal

abbrev pub invariant-loop-value : goal.invariant-loop-value
invariant-loop-value l = take l.value-index l.known ≡ map (λ x. Some x) l.values
