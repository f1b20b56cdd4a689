use Rattle.std.proofs.Common.{◌≡◌, map}
use Rattle.plan_model.specs.task_networks.Spelling.{numbers}
use Rattle.plan_model.specs.declared.terms.Term.TheVariants as T
use Rattle.slot_encoder.proofs.atoms.held_work.Given as goal

abbrev pub invariant-loop-k : goal.invariant-loop-k
invariant-loop-k l = l.args ≡ map (T.Var) (numbers 0 l.k)
