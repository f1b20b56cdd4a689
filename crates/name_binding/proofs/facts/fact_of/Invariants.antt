use Rattle.std.proofs.Common.{◌≡◌, [], map, take}
use Rattle.std.specs.Prelude.{flat_map}
use Rattle.name_binding.specs.Spots.{noted}
use Rattle.name_binding.specs.Terms.{term_faults}
use Rattle.name_binding.specs.Facts.{object_bound}
use Rattle.name_binding.proofs.facts.fact_of.Given as goal

abbrev pub invariant-loop-term : goal.invariant-loop-term
invariant-loop-term l = record {
  bound : l.args.items ≡ map (object_bound l.known.objects) (take l.term-index l.terms);
  faults : l.faults.least ≡ noted l.initial.faults.least (flat_map (term_faults l.known.objects []) (take l.term-index l.terms));
}
