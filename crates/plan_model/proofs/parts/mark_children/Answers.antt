use Rattle.std.proofs.Common.{◌+◌, ◌≤◌, length, true, sym, subst, ◌∙◌, arith}
use Rattle.std.proofs.lemmas.List.{take_all}
use Rattle.std.proofs.lemmas.Bool.{false≢true}
use Rattle.plan_model.specs.declared.types.Parent.{Parent}
use Rattle.plan_model.specs.Parts.{IsClosedUnder}
use Rattle.plan_model.proofs.Marks.{IsPassed, passed_none, passed_over, passed_set}
use Rattle.plan_model.proofs.parts.mark_children.Goals as goal
use Rattle.plan_model.proofs.parts.mark_children.Goals.{then-marks-pair+then-not-marks-pair, else-marks-pair, else-marks-pair-via-then-marks-pair+else-not-marks-pair, else-marks-pair-via-else-marks-pair}

abbrev none : Parent
none = record { child = 0; parent = 0 }

pub loop-pair-init : goal.loop-pair-init
loop-pair-init c = passed_none c.args.parents.now c.args.marks.now

pub loop-pair-preserved : goal.loop-pair-preserved
loop-pair-preserved c =
    let parents = c.args.parents.now in
    let k = c.loop-pair.pair-index in
    let old = c.args.marks.now in
    let now = c.loop-pair.marks in
    let over = passed_over parents k none c.loop-pair-test.true old now c.loop-pair.found c.loop-pair.invariant in
    elim c.if-marks-pair.branch [
      | then-marks-pair+then-not-marks-pair w ↦
          subst (λ f. IsPassed parents (k + 1) old c.if-marks-pair.marks f) (sym w.found-is)
          (subst (λ marks. IsPassed parents (k + 1) old marks true) (sym w.marks-is)
          (passed_set parents k none c.loop-pair-test.true old now c.loop-pair.found c.loop-pair.invariant (c.requires k none c.loop-pair-test.true).0 w.if-marks-pair.true w.if-not-marks-pair.true))
      | else-marks-pair w ↦
          subst (λ f. IsPassed parents (k + 1) old c.if-marks-pair.marks f) (sym w.found-is)
          (subst (λ marks. IsPassed parents (k + 1) old marks c.loop-pair.found) (sym w.marks-is)
          (elim w.else-marks-pair.branch [
            | else-marks-pair-via-then-marks-pair+else-not-marks-pair v ↦ over (λ m. v.if-not-marks-pair.false)
            | else-marks-pair-via-else-marks-pair v ↦ over (λ m. absurd (false≢true (sym v.if-marks-pair.false ∙ m)))
          ]))
    ]

pub returns-clause-closed : goal.returns-clause-closed
returns-clause-closed c f =
    let end : length c.args.parents.now ≤ c.loop-pair.pair-index = omega (arith, c.loop-pair-test.false) in
    subst (λ ps. IsClosedUnder ps c.loop-pair.marks) (take_all c.loop-pair.pair-index c.args.parents.now end) (c.loop-pair.invariant.closed f)
