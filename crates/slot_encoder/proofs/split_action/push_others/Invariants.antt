use Rattle.std.proofs.Common.{◌≡◌, ◌++◌, take}
use Rattle.slot_encoder.proofs.split_action.push_others.Given as goal

abbrev pub invariant-loop-formula : goal.invariant-loop-formula
invariant-loop-formula l = l.into ≡ l.initial.into ++ take l.formula-index l.behind
