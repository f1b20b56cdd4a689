use Rattle.std.proofs.Common.{◌≤◌, length}
use Rattle.htn_base.specs.Limits.{most_steps}
use Rattle.plan_trees.specs.Seeds.{AreJoinedSeeds}
use Rattle.plan_trees.proofs.Seeding.{AreSoFar}
use Rattle.plan_trees.proofs.seeds.seeds_of.Given as goal

abbrev pub invariant-loop-place : goal.invariant-loop-place
invariant-loop-place l = record {
  few : length l.seeds ≤ most_steps;
  joined : AreJoinedSeeds l.seeds l.place;
  so_far : AreSoFar l.c l.lines l.fits l.seeds l.place;
}
