use Rattle.std.proofs.Common.{◌≡◌, map, take}
use Rattle.live_parts.specs.Pruned.{only, renamed_method}
use Rattle.hddl_prune.specs.Chosen.{chosen}
use Rattle.hddl_prune.proofs.chosen.Chosen.method_list.Given as goal

abbrev pub invariant-loop-n : goal.invariant-loop-n
invariant-loop-n l = l.methods ≡ map (renamed_method (chosen l.self)) (only l.h.methods (take l.n-index l.numbers))
