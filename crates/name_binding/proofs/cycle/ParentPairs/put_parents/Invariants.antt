use Rattle.std.proofs.Common.{◌≡◌, ◌++◌, map, take}
use Rattle.std.specs.List.{flat_map}
use Rattle.name_binding.specs.PairsAmong.{pair_among}
use Rattle.name_binding.proofs.cycle.ParentPairs.put_parents.Given as goal

abbrev pub invariant-loop-parent : goal.invariant-loop-parent
invariant-loop-parent l = record {
  pairs : l.self.pairs ≡ l.fn.self.pairs ++ flat_map (pair_among l.types l.count l.child) (take l.parent-index l.parents);
  offsets : l.self.offsets ≡ l.fn.self.offsets ++ map (λ _. l.at) (flat_map (pair_among l.types l.count l.child) (take l.parent-index l.parents));
}
