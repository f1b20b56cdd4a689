use Rattle.std.proofs.Common.{ℕ, ◌↔◌}
use Rattle.gap_pass.proofs.Following.{KeepsAll}
use Rattle.gap_pass.proofs.latest.latest_gaps.Given as goal

abbrev pub invariant-loop-step : goal.invariant-loop-step
invariant-loop-step g l = record {
  stays : (k i : ℕ) → g.C.Conditions.may l.conditions k i ↔ g.C.Conditions.may l.initial.conditions k i;
  kept : KeepsAll l.c l.tree l.actions l.later l.children l.own.items (g.C.Conditions.may l.initial.conditions) l.step-items
      l.step-index l.pass;
}
