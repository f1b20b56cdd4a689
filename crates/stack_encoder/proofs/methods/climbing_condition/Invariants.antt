use Rattle.std.proofs.Common.{◌≡◌, ◌++◌, map}
use Rattle.plan_model.specs.task_networks.Spelling.{numbers}
use Rattle.plan_model.specs.declared.formulas.Formula.TheVariants.{Holds}
use Rattle.stack_encoder.specs.Made as made
use Rattle.stack_encoder.proofs.methods.climbing_condition.Given as goal

abbrev pub invariant-loop-k : goal.invariant-loop-k
invariant-loop-k l = l.into ≡ l.initial.into ++ map (λ v. Holds (made.up l.frame v)) (numbers 0 l.k)
