use Rattle.std.proofs.Common.{◌∙◌, take_all}
use Rattle.tree_core.proofs.tree.Tree.copy.Goals as goal

pub invariant_of-result : goal.invariant_of-result
invariant_of-result c =
    let items = c.as_slice-growth-items.result.now in
    let all = c.loop-growth.invariant ∙ take_all c.loop-growth.growth-index items c.loop-growth-test.false ∙ c.as_slice-growth-items.ensures.items in
    rw (all, c.in_ok-copy.ensures.equal) c.self.invariant
