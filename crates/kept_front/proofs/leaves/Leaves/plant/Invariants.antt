use Rattle.std.proofs.Common.{◌≡◌}
use Rattle.kept_front.specs.Leaves.{room}
use Rattle.kept_front.specs.Planted.{ArePlanted}
use Rattle.kept_front.proofs.leaves.Leaves.plant.Given as goal

abbrev pub invariant-loop-child : goal.invariant-loop-child
invariant-loop-child l = record {
  room : room l.self ≡ room l.initial.self;
  planted : ArePlanted l.growth l.slots l.later l.initial.self l.self l.child;
}
