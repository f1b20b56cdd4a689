use Rattle.gap_pass.proofs.Listing.{starts, goes_on, ends}
use Rattle.gap_pass.proofs.children.children_of.Goals as goal

pub loop-at-init : goal.loop-at-init
loop-at-init c = starts c.args.tree.now c.args.node c.unwrap_or-end.result c.end.result c.end.ensures.end c.unwrap_or-end.ensures
    c.first_below-at.result c.first_below-at.ensures c.new-children.result c.new-children.ensures.empty

pub loop-at-preserved : goal.loop-at-preserved
loop-at-preserved c = goes_on c.args.tree.now c.args.node c.unwrap_or-end.result c.end.result c.end.ensures.end c.unwrap_or-end.ensures
    c.loop-at.at c.after-at.result c.loop-at.children c.push.new.self
    c.loop-at-test.true c.in_ok-push.ensures.pushed c.after-at.ensures.after c.loop-at.invariant

pub returns : goal.returns
returns c = ends c.args.tree.now c.args.node c.unwrap_or-end.result c.end.result c.end.ensures.end c.unwrap_or-end.ensures c.loop-at.at
    c.loop-at.children c.loop-at-test.false c.loop-at.invariant
