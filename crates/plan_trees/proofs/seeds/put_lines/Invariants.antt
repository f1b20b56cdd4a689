use Rattle.std.proofs.Common.{◌≡◌, ◌≤◌, ◌-◌, map, take, length}
use Rattle.htn_base.specs.Limits.{most_steps}
use Rattle.plan_trees.specs.Sources.{source_at, with_children}
use Rattle.plan_trees.proofs.seeds.put_lines.Given as goal

abbrev pub invariant-loop-place : goal.invariant-loop-place
invariant-loop-place l = record {
  few : length l.seeds ≤ most_steps;
  more : length l.initial.seeds ≤ length l.seeds;
  put : l.seeds
      ≡ with_children l.initial.seeds l.parent (length l.initial.seeds - l.start) (map (source_at l.primitives) (take l.place-index l.places));
}
