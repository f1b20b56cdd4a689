use Rattle.std.proofs.Common.{◌≡◌, take}
use Rattle.name_binding.specs.PairsAmong.{pairs_among, places_among}
use Rattle.name_binding.proofs.cycle.pairs_among.Given as goal

abbrev pub invariant-loop-item : goal.invariant-loop-item
invariant-loop-item l = record {
  pairs : l.written.pairs ≡ pairs_among l.types l.count (take l.item-index l.listed);
  offsets : l.written.offsets ≡ places_among l.types l.count (take l.item-index l.listed);
}
