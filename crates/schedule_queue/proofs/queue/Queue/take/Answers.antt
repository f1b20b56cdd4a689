use Rattle.std.proofs.Common.{ap, length, subst, arith}
use Rattle.std.proofs.lemmas.Result.{on_ok_weaker}
use Rattle.schedule_queue.specs.Queue.{AreOffered}
use Rattle.schedule_queue.specs.Children.{below}
use Rattle.schedule_queue.proofs.Taking.{with_children, without_children}
use Rattle.schedule_queue.proofs.queue.Queue.take.Goals as goal

pub returns-then-children-gt0 : goal.returns-then-children-gt0
returns-then-children-gt0 c = λ T plan gap taken p is h out.
    let e = c.below-children.ensures in
    with_children c.args.given.now.c.now c.args.given.now.tree.now c.args.given.now.actions.now c.args.given.now.gaps.now T plan gap
    is.setting taken p c.args.address h c.args.self.now out (below c.args.given.now.children.now c.args.address)
    (is.children c.args.address)
    c.offer.new.self (subst (λ z. AreOffered c.args.given.now.actions.now c.args.given.now.gaps.now z c.args.self.now c.offer.new.self) e
    c.in_ok-offer.ensures)
    (let a = ap length e in let b = c.if-children-gt0.true in omega arith)

pub returns : goal.returns
returns c = on_ok_weaker c.walk.result
    (λ f T plan gap taken p is h out. (
    let e = c.below-children.ensures in
    f T plan gap taken p p is h
    (without_children c.args.given.now.c.now c.args.given.now.tree.now c.args.given.now.actions.now c.args.given.now.gaps.now T plan gap
    is.setting taken p c.args.address h c.args.self.now out (below c.args.given.now.children.now c.args.address)
    (is.children c.args.address)
    c.offer.new.self (subst (λ z. AreOffered c.args.given.now.actions.now c.args.given.now.gaps.now z c.args.self.now c.offer.new.self) e
    c.in_ok-offer.ensures)
    (let a = ap length e in let b = c.if-children-gt0.false in omega arith))))
    c.walk.ensures
