use Rattle.ground_state.proofs.NeedLaws as laws
use Rattle.ground_state.proofs.need.Need.with_action.Goals as goal

pub returns-clause-enough : goal.returns-clause-enough
returns-clause-enough c =
    let least = c.at_least.result in
    let less = c.in_ok-with_formula.field-0 in
    laws.if_both c.with_effect.result _ _ _
    (λ need h w. laws.enough-Action c.args.action.now c.as_slice.result.now c.in_ok-inside.inside c.as_slice.ensures.items c.in_ok-inside.ensures least less need c.at_least.ensures.depth c.in_ok-with_formula.ensures.more w c.in_ok-with_formula.ensures.enough h)
    c.with_effect.ensures.enough c.with_effect.ensures.more
