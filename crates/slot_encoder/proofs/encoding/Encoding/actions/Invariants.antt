use Rattle.std.proofs.Common.{◌≡◌, take}
use Rattle.slot_encoder.specs.Encodings.{all_actions}
use Rattle.slot_encoder.proofs.encoding.Encoding.actions.Given as goal

abbrev pub invariant-loop-k : goal.invariant-loop-k
invariant-loop-k l = l.into ≡ take l.k (all_actions l.c l.self)
