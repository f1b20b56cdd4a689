use Rattle.std.proofs.Common.{◌-◌, ◌<◌, true, length, get_or, set, take, drop, sym, subst, arith}
use Rattle.plan_model.specs.declared.types.Parent.{Parent}
use Rattle.plan_model.specs.Parts.{IsMarkedFurther}
use Rattle.plan_model.proofs.Marks.{further_none, further_twice, further_more, Contains-part}
use Rattle.plan_model.proofs.parts.+climb.Goals as goal
use Rattle.plan_model.proofs.parts.+climb.Goals.{then-marks-pair, else-marks-pair}

abbrev none : Parent
none = record { child = 0; parent = 0 }

pub returns-then-seen-ty-clause-further : goal.returns-then-seen-ty-clause-further
returns-then-seen-ty-clause-further t c = further_none c.args.parents.now c.args.marks.now

pub loop-pair-init : goal.loop-pair-init
loop-pair-init t c = (further_none c.args.parents.now c.args.marks.now, omega arith)

pub loop-pair-preserved : goal.loop-pair-preserved
loop-pair-preserved t c =
    let parents = c.args.parents.now in
    let old = c.args.marks.now in
    let now = c.climb.new.marks in
    let first = c.partition_point-first.result in
    let count = length parents - first in
    let k = c.loop-pair.pair-index in
    let next = get_or (take count (drop first parents)) k none in
    let further = further_twice parents old c.loop-pair.marks now c.loop-pair.invariant.0 c.climb.ensures.further in
    let seen = c.climb.ensures.seen in
    let fewer = c.loop-pair.invariant.1 in
    let is = Contains-part parents first count k none c.loop-pair-test.true in (
      elim c.if-marks-pair.branch [
        | then-marks-pair w ↦
            subst (IsMarkedFurther parents old) (sym w.marks-is)
            (subst (λ i. IsMarkedFurther parents old (set now i true)) c.if-pair-ty.false
            (further_more parents old now next further is (subst (λ i. i < length old) (sym c.if-pair-ty.false) c.requires.within) w.if-marks-pair.true))
        | else-marks-pair w ↦ subst (IsMarkedFurther parents old) (sym w.marks-is) further
      ],
      omega (arith, seen, fewer),
    )
