use Rattle.std.proofs.Common.{◌≡◌, take}
use Rattle.name_binding.specs.Spots.{noted}
use Rattle.name_binding.specs.Terms.{terms_bound, terms_faults}
use Rattle.name_binding.proofs.terms.terms_of.Given as goal

abbrev pub invariant-loop-term : goal.invariant-loop-term
invariant-loop-term l = record {
  bound : l.bound ≡ terms_bound l.objects l.scope (take l.term-index l.terms);
  faults : l.faults.least ≡ noted l.initial.faults.least (terms_faults l.objects l.scope (take l.term-index l.terms));
}
