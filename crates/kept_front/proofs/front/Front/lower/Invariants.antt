use Rattle.std.proofs.Common.{◌≡◌}
use Rattle.kept_front.specs.Leaves.{room}
use Rattle.kept_front.proofs.Lowering.{AreLowered}
use Rattle.kept_front.proofs.front.Front.lower.Given as goal

abbrev pub invariant-loop-child : goal.invariant-loop-child
invariant-loop-child l = record {
  room : room l.self.leaves ≡ room l.initial.self.leaves;
  growths : l.self.growths ≡ l.initial.self.growths;
  nodes : l.self.nodes ≡ l.initial.self.nodes;
  lowered : AreLowered l.initial.self.nodes l.parent l.later l.initial.self.leaves l.self.leaves l.child-index;
}
