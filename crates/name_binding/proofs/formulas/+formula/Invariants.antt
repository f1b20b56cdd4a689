use Rattle.std.proofs.Common.{◌≡◌, take}
use Rattle.name_binding.specs.Spots.{noted}
use Rattle.name_binding.specs.Formulas.{formulas_bound, formulas_faults}
use Rattle.name_binding.proofs.formulas.+formula.Given as goal

abbrev pub invariant-parts_of-loop-part : goal.invariant-parts_of-loop-part
invariant-parts_of-loop-part l = record {
  bound : l.bound ≡ formulas_bound l.known l.initial.scope (take l.part-index l.parts);
  faults : l.faults.least ≡ noted l.initial.faults.least (formulas_faults l.known l.initial.scope (take l.part-index l.parts));
  kept : l.scope ≡ l.initial.scope;
}
