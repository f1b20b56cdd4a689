use Rattle.std.proofs.Common.{◌≡◌, map, take}
use Rattle.name_binding.specs.Spots.{noted}
use Rattle.hddl_bind.specs.Ids.{term_number, ids, second_ids}
use Rattle.hddl_bind.proofs.Called.{id_places}
use Rattle.hddl_bind.proofs.ids.ids_of.Given as goal

abbrev pub invariant-loop-k : goal.invariant-loop-k
invariant-loop-k l = record {
  numbers : l.ids ≡ map term_number (ids (take l.k l.subs));
  places : l.places ≡ id_places 0 (take l.k l.subs);
  faults : l.faults.least ≡ noted l.initial.faults.least (second_ids (take l.k l.subs));
}
