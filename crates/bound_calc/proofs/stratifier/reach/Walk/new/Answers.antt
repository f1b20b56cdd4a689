use Rattle.bound_calc.proofs.stratifier.Descents.{none_marked}
use Rattle.bound_calc.proofs.stratifier.reach.Walk.new.Goals as goal

pub returns-clause-empty : goal.returns-clause-empty
returns-clause-empty c = none_marked c.in_ok-marks.marks.items c.args.count (c.in_ok-marks.ensures.items_if_clones_equal (λ y e. e))
