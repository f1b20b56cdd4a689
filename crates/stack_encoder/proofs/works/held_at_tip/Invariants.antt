use Rattle.std.proofs.Common.{◌≡◌, ◌++◌, map}
use Rattle.plan_model.specs.task_networks.Spelling.{numbers}
use Rattle.plan_model.specs.declared.terms.Term.TheVariants as T
use Rattle.stack_encoder.proofs.works.held_at_tip.Given as goal

abbrev pub invariant-loop-k : goal.invariant-loop-k
invariant-loop-k l = l.args ≡ l.initial.args ++ map (T.Var) (numbers 2 l.k)
