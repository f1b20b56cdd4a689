use Rattle.std.proofs.Common.{◌≡◌, ◌+◌, ◌-◌, ◌≤◌, length, get_or, set, Some, refl, sym, subst, ◌∙◌, arith}
use Rattle.std.proofs.lemmas.Option.{slice_get_read}
use Rattle.value_choices.specs.declared.range.Range.{Range}
use Rattle.value_choices.specs.Ranges.{options, IsLeastFrom}
use Rattle.value_choices.proofs.Counting.{fewer}
use Rattle.value_choices.proofs.Turning.{AreWound, AreTurned, turned, turned_among, turned_next, turned_later, wound_more, wound_last}
use Rattle.value_choices.proofs.choice.turn.Goals as goal

turned_now : (c : goal.In-Some) → AreTurned c.args.ranges.now c.args.values.now (set c.loop-i.values (c.loop-i.i - 1) c.in-Some.next)
    (c.loop-i.i - 1)
turned_now c =
    let t = c.loop-i-test.true in
    let a = c.loop-i.auto.i in
    let m = c.requires.among.as_many in
    let v = c.loop-i.invariant.as_many in
    let at = slice_get_read c.args.ranges.now (length c.args.ranges.now) (c.loop-i.i - 1) c.index-ranges-i.result refl
    (omega arith) c.index-ranges-i.is in
    let w : AreWound c.args.ranges.now c.args.values.now c.loop-i.values (c.loop-i.i - 1 + 1) = subst
    (AreWound c.args.ranges.now c.args.values.now c.loop-i.values)
    (let e : c.loop-i.i ≡ c.loop-i.i - 1 + 1 = omega arith in e) c.loop-i.invariant in
    turned c.args.ranges.now c.args.values.now c.loop-i.values (set c.loop-i.values (c.loop-i.i - 1) c.in-Some.next)
    (c.loop-i.i - 1) c.in-Some.next c.index-ranges-i.result at (omega arith) refl w
    (subst (λ z. IsLeastFrom (options c.index-ranges-i.result) (z + 1) c.in-Some.next) c.from.ensures c.in-Some.ensures.least)

pub returns-in-Some-clause-among : goal.returns-in-Some-clause-among
returns-in-Some-clause-among c = turned_among c.args.ranges.now c.args.values.now (set c.loop-i.values (c.loop-i.i - 1) c.in-Some.next)
    (c.loop-i.i - 1) c.requires.among (turned_now c)

pub returns-in-Some-clause-moved : goal.returns-in-Some-clause-moved
returns-in-Some-clause-moved c = turned_next c.args.ranges.now c.args.values.now (set c.loop-i.values (c.loop-i.i - 1) c.in-Some.next)
    (c.loop-i.i - 1) c.requires.among (turned_now c)

pub returns-in-Some-clause-fewer : goal.returns-in-Some-clause-fewer
returns-in-Some-clause-fewer c = λ t. (
    let new = set c.loop-i.values (c.loop-i.i - 1) c.in-Some.next in
    fewer c.args.ranges.now c.args.values.now (set c.loop-i.values (c.loop-i.i - 1) c.in-Some.next) c.requires.among
    (turned_among c.args.ranges.now c.args.values.now (set c.loop-i.values (c.loop-i.i - 1) c.in-Some.next)
    (c.loop-i.i - 1) c.requires.among (turned_now c))
    (turned_later c.args.ranges.now c.args.values.now (set c.loop-i.values (c.loop-i.i - 1) c.in-Some.next)
    (c.loop-i.i - 1) c.requires.among (turned_now c)))

pub least_from-requires-in-None : goal.least_from-requires-in-None
least_from-requires-in-None c =
    let t = c.loop-i-test.true in
    let a = c.loop-i.auto.i in
    let at = slice_get_read c.args.ranges.now (length c.args.ranges.now) (c.loop-i.i - 1) c.index-ranges-i-in-None.result refl
    (omega arith) c.index-ranges-i-in-None.is in
    record { increasing = c.requires.increasing (c.loop-i.i - 1) c.index-ranges-i-in-None.result at }

pub loop-i-preserved-in-Some-least_from : goal.loop-i-preserved-in-Some-least_from
loop-i-preserved-in-Some-least_from c =
    let t = c.loop-i-test.true in
    let a = c.loop-i.auto.i in
    let m = c.requires.among.as_many in
    let v = c.loop-i.invariant.as_many in
    let at = slice_get_read c.args.ranges.now (length c.args.ranges.now) (c.loop-i.i - 1) c.index-ranges-i.result refl
    (omega arith) c.index-ranges-i.is in
    let other = slice_get_read c.args.ranges.now (length c.args.ranges.now) (c.loop-i.i - 1) c.index-ranges-i-in-None.result refl
    (omega arith) c.index-ranges-i-in-None.is in
    let same : c.index-ranges-i-in-None.result ≡ c.index-ranges-i.result =
    (let e : Some c.index-ranges-i-in-None.result ≡ Some c.index-ranges-i.result = sym other ∙ at in cc) in
    let w : AreWound c.args.ranges.now c.args.values.now c.loop-i.values (c.loop-i.i - 1 + 1) = subst
    (AreWound c.args.ranges.now c.args.values.now c.loop-i.values)
    (let e : c.loop-i.i ≡ c.loop-i.i - 1 + 1 = omega arith in e) c.loop-i.invariant in
    wound_more c.args.ranges.now c.args.values.now c.loop-i.values (set c.loop-i.values (c.loop-i.i - 1) c.in-Some-least_from.first)
    (c.loop-i.i - 1) c.in-Some-least_from.first c.index-ranges-i.result at (omega arith) refl w
    (λ x d l. c.in-None.ensures.least x d (subst (λ z. z + 1 ≤ x) (sym c.from.ensures) l))
    (subst (λ (z : Range). IsLeastFrom (options z) 0 c.in-Some-least_from.first) same c.in-Some-least_from.ensures.least)

pub loop-i-preserved : goal.loop-i-preserved
loop-i-preserved c =
    let t = c.loop-i-test.true in
    let a = c.loop-i.auto.i in
    let at = slice_get_read c.args.ranges.now (length c.args.ranges.now) (c.loop-i.i - 1) c.index-ranges-i-in-None.result refl
    (omega arith) c.index-ranges-i-in-None.is in
    let here = c.requires.among.each (c.loop-i.i - 1) c.index-ranges-i-in-None.result at in
    let n = c.in_default.ensures.least in
    absurd (n (get_or c.args.values.now (c.loop-i.i - 1) 0) here (omega arith))

pub returns-clause-moved : goal.returns-clause-moved
returns-clause-moved c =
    let t = c.loop-i-test.false in
    let w : AreWound c.args.ranges.now c.args.values.now c.loop-i.values 0 = subst
    (AreWound c.args.ranges.now c.args.values.now c.loop-i.values) (let e : c.loop-i.i ≡ 0 = omega arith in e) c.loop-i.invariant in
    wound_last c.args.ranges.now c.args.values.now c.loop-i.values c.requires.among w
