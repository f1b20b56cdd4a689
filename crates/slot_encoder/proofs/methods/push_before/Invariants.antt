use Rattle.std.proofs.Common.{◌≡◌, ◌++◌, map}
use Rattle.plan_model.specs.task_networks.Spelling.{numbers}
use Rattle.plan_model.specs.declared.formulas.Formula.TheVariants as F
use Rattle.slot_encoder.specs.Made as made
use Rattle.slot_encoder.proofs.methods.push_before.Given as goal

abbrev pub invariant-loop-k : goal.invariant-loop-k
invariant-loop-k l = l.into ≡ l.initial.into ++ map (λ v. F.Holds (made.is_free l.frame v)) (numbers 1 l.k)
