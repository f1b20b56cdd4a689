use Rattle.std.proofs.Common.{◌≡◌, ◌≤◌, ◌+◌, length, get_or, sym, subst}
use Rattle.plan_model.proofs.Marks.{AreMarked, marked_more, marked_past, marked_whole}
use Rattle.plan_model.proofs.parts.mark_all.Goals as goal
use Rattle.plan_model.proofs.parts.mark_all.Goals.{then-place-marks, else-place-marks}

pub loop-ty-preserved : goal.loop-ty-preserved
loop-ty-preserved c =
    let old = c.args.marks.now in
    let types = c.args.types.now in
    let k = c.loop-ty.ty-index in
    let room : length c.loop-ty.marks ≡ length c.args.marks.now = c.loop-ty.auto.marks in
    elim c.if-place-marks.branch [
      | then-place-marks w ↦
          subst (AreMarked old types (k + 1)) (sym w.marks-is)
          (marked_more old types k 0 c.loop-ty-test.true c.loop-ty.marks c.loop-ty.invariant w.if-place-marks.true)
      | else-place-marks w ↦
          subst (AreMarked old types (k + 1)) (sym w.marks-is)
          (marked_past old types k 0 c.loop-ty-test.true c.loop-ty.marks c.loop-ty.invariant (subst (λ n. n ≤ get_or types k 0) room w.if-place-marks.false))
    ]

pub returns : goal.returns
returns c = marked_whole c.args.marks.now c.args.types.now c.loop-ty.ty-index c.loop-ty.marks c.loop-ty-test.false c.loop-ty.invariant
