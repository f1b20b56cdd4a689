use Rattle.std.proofs.Common.{◌∙◌, sym, subst, arith}
use Rattle.plan_model.specs.plan_meaning.Network.{network}
use Rattle.schedule_queue.specs.Children.{IsNode}
use Rattle.schedule_queue.specs.Kept.{IsWholeAt}
use Rattle.schedule_queue.proofs.Telling.{up_from, at_root, goes_on, stops, ends}
use Rattle.schedule_queue.proofs.queue.Queue.walk.Goals as goal

pub loop-parent-init : goal.loop-parent-init
loop-parent-init c = λ T plan gap taken p v is h w. (v, h, w)

pub returns-then-parent-whole : goal.returns-then-parent-whole
returns-then-parent-whole c = λ T plan gap taken p v is h w0.
    let (u, hu, w) = c.loop-parent.invariant T plan gap taken p v is h w0 in
    let (i, q, e, hx, l) = up_from c.args.given.now.c.now c.args.given.now.tree.now c.args.given.now.actions.now c.args.given.now.gaps.now
    T plan gap is.setting c.loop-parent.whole c.in-Some.parent u hu (sym c.parent.ensures.parent ∙ c.in-Some.is) in
    let m = c.if-parent-whole.true in
    absurd (omega arith)

pub returns-then-unfinished-gt0 : goal.returns-then-unfinished-gt0
returns-then-unfinished-gt0 c = λ T plan gap taken p v is h w0.
    let (u, hu, w) = c.loop-parent.invariant T plan gap taken p v is h w0 in
    let (i, q, e, hx, l) = up_from c.args.given.now.c.now c.args.given.now.tree.now c.args.given.now.actions.now c.args.given.now.gaps.now
    T plan gap is.setting c.loop-parent.whole c.in-Some.parent u hu (sym c.parent.ensures.parent ∙ c.in-Some.is) in
    let t = c.in_ok-tell.ensures T plan gap taken p q i is (subst (IsNode (network c.args.given.now.c.now) T c.loop-parent.whole) e hu) hx
    (subst (λ z. IsWholeAt (network c.args.given.now.c.now) T plan gap taken p z c.loop-parent.self) e w) in
    stops c.args.given.now.c.now c.args.given.now.tree.now c.args.given.now.actions.now c.args.given.now.gaps.now T plan gap is.setting
    taken p c.in-Some.parent q hx c.tell.new.self t
    (λ z. (let a = c.unfinished.ensures in let b = c.if-unfinished-gt0.true in omega arith))

pub loop-parent-preserved : goal.loop-parent-preserved
loop-parent-preserved c = λ T plan gap taken p v is h w0.
    let (u, hu, w) = c.loop-parent.invariant T plan gap taken p v is h w0 in
    let (i, q, e, hx, l) = up_from c.args.given.now.c.now c.args.given.now.tree.now c.args.given.now.actions.now c.args.given.now.gaps.now
    T plan gap is.setting c.loop-parent.whole c.in-Some.parent u hu (sym c.parent.ensures.parent ∙ c.in-Some.is) in
    let t = c.in_ok-tell.ensures T plan gap taken p q i is (subst (IsNode (network c.args.given.now.c.now) T c.loop-parent.whole) e hu) hx
    (subst (λ z. IsWholeAt (network c.args.given.now.c.now) T plan gap taken p z c.loop-parent.self) e w) in (
      q,
      hx,
      goes_on c.args.given.now.c.now c.args.given.now.tree.now c.args.given.now.actions.now c.args.given.now.gaps.now T plan gap
          is.setting taken p c.in-Some.parent q hx c.tell.new.self t
          (let a = c.unfinished.ensures in let b = c.if-unfinished-gt0.false in omega arith),
    )

pub returns : goal.returns
returns c = λ T plan gap taken p v is h w0.
    let (u, hu, w) = c.loop-parent.invariant T plan gap taken p v is h w0 in
    let e = at_root c.args.given.now.c.now c.args.given.now.tree.now c.args.given.now.actions.now c.args.given.now.gaps.now T plan gap
    is.setting c.loop-parent.whole u hu (sym c.parent.ensures.parent ∙ c.in_default.is) in
    ends c.args.given.now.c.now c.args.given.now.tree.now c.args.given.now.actions.now c.args.given.now.gaps.now T plan gap is.setting
    taken p c.loop-parent.self
    (subst (λ z. IsWholeAt (network c.args.given.now.c.now) T plan gap taken p z c.loop-parent.self) e w)
