use Rattle.std.proofs.Common.{◌≡◌, take}
use Rattle.live_parts.specs.Pruned.{only}
use Rattle.hddl_prune.proofs.chosen.Chosen.task_list.Given as goal

abbrev pub invariant-loop-n : goal.invariant-loop-n
invariant-loop-n l = l.tasks ≡ only l.h.tasks (take l.n-index l.numbers)
