use Rattle.std.proofs.Common.{◌≡◌, ◌++◌, map}
use Rattle.plan_model.specs.task_networks.Spelling.{numbers}
use Rattle.plan_model.specs.declared.effects.Effect.TheVariants as E
use Rattle.slot_encoder.specs.Made as made
use Rattle.slot_encoder.proofs.splitting.push_split.Given as goal

abbrev pub invariant-loop-k : goal.invariant-loop-k
invariant-loop-k l = l.into ≡ l.initial.into ++ map (λ v. E.Delete (made.is_free l.frame v)) (numbers 1 l.k)
