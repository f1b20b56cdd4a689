use Rattle.std.proofs.Common.{◌≡◌, ◌++◌, map, take}
use Rattle.bound_calc.specs.declared.stratifier.finishing.Step.TheVariants.{Enter}
use Rattle.bound_calc.proofs.stratifier.finishing.Descent.take.Given as goal

abbrev pub invariant-loop-next : goal.invariant-loop-next
invariant-loop-next l = record {
  steps : l.self.steps.items ≡ l.initial.self.steps.items ++ map Enter (take l.next-index l.next-items);
  marks : l.self.marks ≡ l.initial.self.marks;
  order : l.self.order ≡ l.initial.self.order;
}
