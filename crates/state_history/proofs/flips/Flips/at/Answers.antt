use Rattle.std.proofs.Common.{ap, sym, subst, ◌∙◌}
use Rattle.std.specs.List.Sorted.{IsNonDecreasing}
use Rattle.state_history.specs.Gaps.{is_true_in}
use Rattle.state_history.proofs.flips.Flips.at.Goals as goal

pub look_at-requires : goal.look_at-requires
look_at-requires c = subst IsNonDecreasing (sym c.of.ensures) (c.args.self.now.sound c.args.key.now).ordered

pub returns-clause-same : goal.returns-clause-same
returns-clause-same c j since before = ap (is_true_in j) (sym c.of.ensures) ∙ c.look_at.ensures.same j since before
