use Rattle.std.proofs.Common.{◌<◌, length, false, get_or, sym, ap, subst, ◌∙◌, arith}
use Rattle.std.proofs.lemmas.Option.{slice_get-get_or}
use Rattle.std.proofs.lemmas.Bool.{false≢true}
use Rattle.bound_calc.specs.declared.stratifier.named.Ends.{Ends}
use Rattle.bound_calc.specs.stratifier.Bad.{AreBadMarks}
use Rattle.bound_calc.specs.stratifier.NamedSearch.{ClosesAt, IsCycleAt}
use Rattle.bound_calc.proofs.stratifier.NamedFirst.{none_more, closing_told, none_at_all, closes_at, named_at, none_closes}
use Rattle.bound_calc.proofs.stratifier.named.named_cycle.Goals as goal
use Rattle.bound_calc.proofs.stratifier.named.named_cycle.Goals.{else-marks-k-via-then-marks-k+else-groups-e, else-marks-k-via-else-marks-k}

abbrev nowhere : Ends
nowhere = record { from = 0; to = 0 }

pub bounds-marks-k : goal.bounds-marks-k
bounds-marks-k c = omega (arith, c.requires.bad.room, c.requires.ends.room, ap length c.as_slice-marks.ensures.items, c.loop-k-test.true)

pub bounds-groups-e : goal.bounds-groups-e
bounds-groups-e c = omega (arith, (c.requires.ends.below c.loop-k.k nowhere c.loop-k-test.true).0, c.requires.groups.room)

pub bounds-groups-e-then-marks-k : goal.bounds-groups-e-then-marks-k
bounds-groups-e-then-marks-k c = omega (arith, (c.requires.ends.below c.loop-k.k nowhere c.loop-k-test.true).1, c.requires.groups.room)

pub loop-k-preserved : goal.loop-k-preserved
loop-k-preserved c =
    let ends = c.args.ends.now in
    let marks = c.as_slice-marks.result.now in
    let k = c.loop-k.k in
    let l = c.loop-k-test.true in
    let b : k < length marks = omega (arith, c.requires.bad.room, c.requires.ends.room, ap length c.as_slice-marks.ensures.items, c.loop-k-test.true) in
    none_more c.args.groups.now ends marks k (get_or ends k nowhere) (get_or marks k false) (slice_get-get_or ends k nowhere l) (slice_get-get_or marks k false b)
    (λ mark same. elim c.else-marks-k.branch [
      | else-marks-k-via-then-marks-k+else-groups-e w ↦ w.if-groups-e.false same
      | else-marks-k-via-else-marks-k w ↦ false≢true (sym w.if-marks-k.false ∙ mark)
    ])
    c.loop-k.invariant

pub cycle_from-requires-clause-closes : goal.cycle_from-requires-clause-closes
cycle_from-requires-clause-closes c =
    let marks = subst (AreBadMarks c.args.c.now c.args.edges.now) (sym c.as_slice-marks.ensures.items) c.requires.bad in
    subst (λ s. ClosesAt c.args.c.now s c.loop-k.k) (sym c.as_slice.ensures.items)
    (closes_at c.args.c.now c.args.edges.now c.requires.edges c.as_slice-marks.result.now marks c.args.groups.now c.requires.groups c.args.ends.now c.requires.ends c.loop-k.k
    (closing_told c.args.groups.now c.args.ends.now c.as_slice-marks.result.now c.loop-k.k nowhere c.loop-k-test.true (marks.room ∙ sym c.requires.ends.room) c.if-marks-k.true c.if-groups-e.true))

pub returns-then-groups-e : goal.returns-then-groups-e
returns-then-groups-e c =
    let marks = subst (AreBadMarks c.args.c.now c.args.edges.now) (sym c.as_slice-marks.ensures.items) c.requires.bad in
    record {
      named = named_at c.args.c.now c.args.edges.now c.requires.edges c.as_slice-marks.result.now marks c.args.groups.now c.requires.groups c.args.ends.now c.requires.ends c.loop-k.k c.in_ok-cycle.cycle
          (closing_told c.args.groups.now c.args.ends.now c.as_slice-marks.result.now c.loop-k.k nowhere c.loop-k-test.true (marks.room ∙ sym c.requires.ends.room) c.if-marks-k.true c.if-groups-e.true)
          c.loop-k.invariant
          (subst (λ s. IsCycleAt c.args.c.now s c.loop-k.k c.in_ok-cycle.cycle) c.as_slice.ensures.items c.in_ok-cycle.ensures.cycle);
    }

pub returns : goal.returns
returns c =
    let edges = c.args.edges.now in
    let bad = c.as_slice-marks.result.now in
    let marks = subst (AreBadMarks c.args.c.now edges) (sym c.as_slice-marks.ensures.items) c.requires.bad in
    record { named = none_closes c.args.c.now edges c.requires.edges bad marks c.args.groups.now c.requires.groups c.args.ends.now c.requires.ends (none_at_all c.args.groups.now c.args.ends.now bad c.loop-k.k c.loop-k-test.false c.loop-k.invariant) }
