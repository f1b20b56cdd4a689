use Rattle.std.proofs.Common.{get_or, ap, ◌∙◌}
use Rattle.gap_pass.proofs.PassParts.{other_gap}
use Rattle.gap_pass.proofs.pass.Pass.gap.Goals as goal

pub returns-in_default-clause-gap : goal.returns-in_default-clause-gap
returns-in_default-clause-gap g c = other_gap c.args.children.now c.args.self.now (g.C.Conditions.may c.args.conditions.now c.args.node)
    c.args.own c.args.node c.least-bound.result c.number_at-cap.result
    c.as_slice-in_default.result.now c.children_at.result.now c.greatest.result c.in_default.is c.as_slice-in_default.ensures.value
    c.children_at.ensures (c.number_at-cap.ensures ∙ ap (λ z. get_or z c.args.node 0) c.as_slice.ensures.value) c.least-bound.ensures
    c.greatest.ensures.greatest
