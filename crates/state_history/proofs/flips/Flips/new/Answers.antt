use Rattle.std.proofs.Common.{ap}
use Rattle.state_history.specs.Gaps.{is_true_in}
use Rattle.state_history.specs.Flips.{key_of}
use Rattle.state_history.proofs.flips.Flips.new.Goals as goal

pub returns-clause-none : goal.returns-clause-none
returns-clause-none c j g = ap (is_true_in j) (c.new.ensures (key_of g))
