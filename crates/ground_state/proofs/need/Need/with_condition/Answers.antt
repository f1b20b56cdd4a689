use Rattle.ground_state.proofs.NeedLaws as laws
use Rattle.ground_state.proofs.need.Need.with_condition.Goals as goal

pub returns-clause-enough : goal.returns-clause-enough
returns-clause-enough c =
    laws.if_both c.with_formula.result _ _ _
    (λ need h w. laws.enough-Condition c.args.params.now c.args.condition.now c.in_ok-inside.inside c.in_ok-inside.ensures c.at_least.result need c.at_least.ensures.depth w h)
    c.with_formula.ensures.enough c.with_formula.ensures.more
