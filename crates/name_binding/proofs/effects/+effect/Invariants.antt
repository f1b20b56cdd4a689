use Rattle.std.proofs.Common.{◌≡◌, take}
use Rattle.name_binding.specs.Spots.{noted}
use Rattle.name_binding.specs.Effects.{effects_bound, effects_faults}
use Rattle.name_binding.proofs.effects.+effect.Given as goal

abbrev pub invariant-parts_of-loop-part : goal.invariant-parts_of-loop-part
invariant-parts_of-loop-part l = record {
  bound : l.bound ≡ effects_bound l.known l.initial.scope (take l.part-index l.parts);
  faults : l.faults.least ≡ noted l.initial.faults.least (effects_faults l.known l.initial.scope (take l.part-index l.parts));
  kept : l.scope ≡ l.initial.scope;
}
