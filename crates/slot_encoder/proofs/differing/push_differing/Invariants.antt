use Rattle.std.proofs.Common.{◌≡◌, ◌+◌, ◌-◌, ◌++◌}
use Rattle.plan_model.specs.task_networks.Spelling.{numbers}
use Rattle.slot_encoding.specs.EncodedActions.{differ}
use Rattle.slot_encoder.proofs.differing.push_differing.Given as goal

abbrev pub invariant-loop-i : goal.invariant-loop-i
invariant-loop-i l = l.into ++ differ (numbers (1 + l.i) (l.spare - l.i)) ≡ l.initial.into ++ differ (numbers 1 l.spare)
