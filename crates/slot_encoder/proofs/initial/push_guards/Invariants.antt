use Rattle.std.proofs.Common.{take}
use Rattle.slot_encoder.specs.Made as made
use Rattle.slot_encoder.proofs.initial.push_guards.Given as goal

abbrev pub invariant-loop-ty : goal.invariant-loop-ty
invariant-loop-ty l = made.AddsGuardAtoms l.frame (take l.ty-index l.types) l.initial.into l.into
