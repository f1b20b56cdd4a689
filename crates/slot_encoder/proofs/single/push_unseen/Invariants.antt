use Rattle.std.proofs.Common.{◌≡◌, ◌++◌, take}
use Rattle.plan_model.specs.plan_meaning.Compilation.{once}
use Rattle.slot_encoding.specs.EncodedValue.{same_atom}
use Rattle.slot_encoder.specs.SeenFacts.{HasMet}
use Rattle.slot_encoder.proofs.single.push_unseen.Given as goal

abbrev pub invariant-loop-i : goal.invariant-loop-i
invariant-loop-i l = record {
  seen : HasMet l.seen (take l.i l.facts);
  into : l.into ≡ l.initial.into ++ once same_atom (take l.i l.facts);
}
