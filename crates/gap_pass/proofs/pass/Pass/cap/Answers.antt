use Rattle.std.proofs.Common.{get_or, ap, sym, ◌∙◌}
use Rattle.gap_pass.proofs.PassParts.{cap_below}
use Rattle.gap_pass.proofs.pass.Pass.cap.Goals as goal

pub returns : goal.returns
returns c = cap_below c.args.later.now c.args.tree.now c.args.children.now c.args.self.now c.args.node c.in-Some.parent
    c.as_slice.result.now c.children_at.result.now c.after.result.now c.number_at.result c.least_of.result
    (sym c.parent.ensures.parent ∙ c.in-Some.is) c.as_slice.ensures.value c.children_at.ensures c.after.ensures (c.number_at.ensures
    ∙ ap (λ z. get_or z c.in-Some.parent 0) c.as_slice-2.ensures.value) c.least_of.ensures
