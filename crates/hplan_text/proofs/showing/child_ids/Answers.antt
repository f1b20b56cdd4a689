use Rattle.hplan_text.proofs.ShownChildren.{starts, goes_on, ends}
use Rattle.hplan_text.proofs.showing.child_ids.Goals as goal

pub loop-at-init : goal.loop-at-init
loop-at-init c = λ cc tree order f rows ix q g kq is. starts cc tree order f c.args.tree.now rows q g c.args.place kq is c.end.result c.unwrap_or-end.result c.end.ensures.end c.unwrap_or-end.ensures c.first_below-at.result c.first_below-at.ensures c.new-list.result c.new-list.ensures.empty

pub loop-at-preserved : goal.loop-at-preserved
loop-at-preserved c = λ cc tree order f rows ix q g kq is. goes_on cc tree order f c.args.tree.now rows q g c.args.place kq is c.end.result c.unwrap_or-end.result c.end.ensures.end c.unwrap_or-end.ensures c.args.ids.now ix
    c.loop-at.at c.loop-at.list c.loop-at-test.true c.put_child.new.list c.in_ok-put_child.ensures.none c.in_ok-put_child.ensures.put c.after-at.result c.after-at.ensures.after (c.loop-at.invariant cc tree order f rows ix q g kq is)

pub returns : goal.returns
returns c = λ cc tree order f rows ix q g kq is. ends cc tree order f c.args.tree.now rows q g c.args.place kq is c.end.result c.unwrap_or-end.result c.end.ensures.end c.unwrap_or-end.ensures
    c.loop-at.at c.loop-at.list c.loop-at-test.false (c.loop-at.invariant cc tree order f rows ix q g kq is)
