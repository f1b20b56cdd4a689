use Rattle.std.proofs.Common.{List, take}
use Rattle.plan_model.specs.task_networks.Tree.{Label}
use Rattle.plan_model.specs.plan_meaning.Network.{network}
use Rattle.plan_placer.specs.Executed.{AreLabelsOf, HasStates}
use Rattle.plan_placer.proofs.executing.executed.Given as goal

-- the history has the states of the labels so far
abbrev pub invariant-loop-place : goal.invariant-loop-place
invariant-loop-place l = (labels : List (Label (network l.c))) → AreLabelsOf l.c l.steps labels
    → HasStates l.c (take l.place labels) l.history
