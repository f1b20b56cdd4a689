use Rattle.std.proofs.Common.{◌≡◌, ◌++◌, take, length}
use Rattle.std.specs.List.{flat_map}
use Rattle.name_binding.specs.Spots.{noted}
use Rattle.plan_texts.specs.Networks.{chain_if}
use Rattle.hddl_bind.specs.Pairs.{written, written_at, pair_faults}
use Rattle.hddl_bind.proofs.pairs.pairs_of.Given as goal

abbrev pub invariant-loop-pair : goal.invariant-loop-pair
invariant-loop-pair l = record {
  pairs : l.ordering.pairs ≡ chain_if l.net.ordered (length l.net.subs) ++ flat_map (written l.net.subs) (take l.pair-index l.pair-items);
  offsets : l.ordering.offsets ≡ flat_map (written_at l.net.subs) (take l.pair-index l.pair-items);
  faults : l.faults.least ≡ noted l.initial.faults.least (flat_map (pair_faults l.net.subs) (take l.pair-index l.pair-items));
}
