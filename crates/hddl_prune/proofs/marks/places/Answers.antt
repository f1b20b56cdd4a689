use Rattle.std.proofs.Common.{◌<◌, ◌∙◌, length, arith}
use Rattle.hddl_prune.proofs.CopySteps.{place_put, no_place}
use Rattle.hddl_prune.proofs.marks.places.Goals as goal
use Rattle.hddl_prune.proofs.marks.places.Goals.{then-flags-n+in_ok-push, else-flags-n}

pub loop-n-preserved : goal.loop-n-preserved
loop-n-preserved c =
    let flags = c.args.flags.now in
    let n = c.loop-n.n in
    let l : n < length flags = (let e = c.in_ok-n-end.ensures.same in let t = c.loop-n-test.true in omega arith) in
    elim c.if-flags-n.branch [
      | then-flags-n+in_ok-push w ↦ place_put flags n c.loop-n.numbers c.if-flags-n.numbers l w.if-flags-n.true c.loop-n.invariant (w.numbers-is ∙ w.in_ok-push.ensures.pushed)
      | else-flags-n w ↦ w.numbers-is ∙ no_place flags n c.loop-n.numbers l w.if-flags-n.false c.loop-n.invariant
    ]
