use Rattle.std.proofs.Common.{◌≡◌, ◌↔◌, take, Contains}
use Rattle.plan_model.specs.declared.terms.GroundAtom.{GroundAtom}
use Rattle.state_history.specs.Flips.{states}
use Rattle.state_history.proofs.history.History.new.Given as goal

abbrev pub invariant-loop-i : goal.invariant-loop-i
invariant-loop-i l = record {
  last : l.flips.last ≡ 0;
  init : (g : GroundAtom) → states l.flips 0 g ↔ Contains (take l.i l.init) g;
}
