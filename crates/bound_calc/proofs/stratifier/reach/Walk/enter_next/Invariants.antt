use Rattle.std.proofs.Common.{take}
use Rattle.bound_calc.specs.stratifier.Links.{IsSubtask, IsSubtaskOf}
use Rattle.bound_calc.specs.stratifier.Entered.{AreEntered}
use Rattle.bound_calc.proofs.stratifier.reach.Walk.enter_next.Given as goal

abbrev pub invariant-loop-m : goal.invariant-loop-m
invariant-loop-m l = AreEntered (IsSubtaskOf l.methods (take l.m-index l.places)) l.initial.self l.self

abbrev pub invariant-loop-child : goal.invariant-loop-child
invariant-loop-child l = AreEntered (IsSubtask (take l.child-index l.child-items)) l.initial.self l.self
