use Rattle.std.proofs.Common.{◌≡◌, map, take}
use Rattle.live_parts.specs.Pruned.{renamed_child}
use Rattle.hddl_prune.specs.Chosen.{chosen}
use Rattle.hddl_prune.proofs.chosen.Chosen.children.Given as goal

abbrev pub invariant-loop-child : goal.invariant-loop-child
invariant-loop-child l = l.list ≡ map (renamed_child (chosen l.self)) (take l.child-index l.children)
