use Rattle.std.proofs.Common.{ℕ, ◌≡◌, List}
use Rattle.plan_model.specs.task_networks.Spelling.{Act}
use Rattle.plan_model.specs.plan_meaning.Network.{network}
use Rattle.kept_front.specs.Fronts.{IsWholeAt, IsSomeWholeAt, StaysSized}
use Rattle.kept_front.proofs.front.Front.walk.Given as goal

abbrev pub invariant-loop-parent : goal.invariant-loop-parent
invariant-loop-parent l = record {
  growths : l.self.growths ≡ l.initial.self.growths;
  sized : StaysSized l.initial.self l.self;
  some : IsSomeWholeAt l.c l.self l.whole;
  all : (b : ℕ) (acts : List (Act (network l.c))) (a : Act (network l.c)) → IsWholeAt l.c b l.initial.self l.fn.growth acts a → IsWholeAt l.c b l.self l.whole acts a;
}

abbrev pub decreases-loop-parent : goal.decreases-loop-parent
decreases-loop-parent l = l.whole
