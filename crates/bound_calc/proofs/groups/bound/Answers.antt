use Rattle.std.proofs.Common.{◌≡◌, ◌<◌, ◌+◌, length, slice_get, get_or, Some, replicate, max, refl, sym, ap, subst, ◌∙◌, arith}
use Rattle.std.proofs.lemmas.List.{get_or_read}
use Rattle.bound_calc.specs.stratifier.Conditions.{IsOrdered, IsSmallMethod}
use Rattle.bound_calc.specs.stratifier.Stratified.{number_of}
use Rattle.plan_model.specs.plan_meaning.Bound.{IsBound}
use Rattle.bound_calc.specs.Blocks.{IsGreatest, IsPastBy}
use Rattle.bound_calc.specs.Lines.{HasLine}
use Rattle.bound_calc.specs.ByRank.{AreByRank, HaveNumbers}
use Rattle.plan_model.specs.plan_meaning.Network.{top_task}
use Rattle.bound_calc.specs.Past.{IsRefused}
use Rattle.bound_calc.proofs.Counting.{of_all, plan_at, counted_none, have_numbers, are_ranked, method_below, group_below, counted_more, refused, counted_all, error_told}
use Rattle.bound_calc.proofs.groups.bound.Goals as goal

pub loop-place-init : goal.loop-place-init
loop-place-init c = counted_none c.args.c.now c.args.r.now c.requires.small c.requires.strata c.requires.lines c.as_slice-place-items.result.now c.in_ok-numbers.numbers.items
    (c.in_ok-numbers.ensures.items_if_clones_equal (λ y e. e) ∙ ap (λ n. replicate (n + 1) 1) c.len-top.ensures.length)

pub bounds-methods-m : goal.bounds-methods-m
bounds-methods-m c =
    let by_rank = subst (AreByRank c.args.c.now c.args.r.now) (sym c.as_slice-place-items.ensures.value) c.in_ok-places.ensures.places in
    let places = c.as_slice-place-items.result.now in
    let k = c.loop-place.place-index in
    let l = c.loop-place-test.true in
    let place = get_or places k (0, 0) in
    let below = method_below c.args.c.now c.args.r.now c.requires.small c.requires.strata c.requires.lines places by_rank k (0, 0) l in
    let e = ap length c.as_slice-methods.ensures.items in
    omega arith

pub method_number-requires-clause-small : goal.method_number-requires-clause-small
method_number-requires-clause-small c =
    let by_rank = subst (AreByRank c.args.c.now c.args.r.now) (sym c.as_slice-place-items.ensures.value) c.in_ok-places.ensures.places in
    let places = c.as_slice-place-items.result.now in
    let k = c.loop-place.place-index in
    let l = c.loop-place-test.true in
    let place = get_or places k (0, 0) in
    let plan = c.index-methods-m.result in
    let below = method_below c.args.c.now c.args.r.now c.requires.small c.requires.strata c.requires.lines places by_rank k (0, 0) l in
    let is : slice_get c.args.c.now.methods (get_or c.as_slice-place-items.result.now c.loop-place.place-index (0, 0)).1 ≡ Some c.index-methods-m.result =
    plan_at c.as_slice-methods.result.now c.args.c.now.methods place.1 plan c.as_slice-methods.ensures.items below c.index-methods-m.is in
    of_all IsSmallMethod c.args.c.now.methods place.1 plan c.requires.small.networks is

pub method_number-requires-clause-ordered : goal.method_number-requires-clause-ordered
method_number-requires-clause-ordered c =
    let by_rank = subst (AreByRank c.args.c.now c.args.r.now) (sym c.as_slice-place-items.ensures.value) c.in_ok-places.ensures.places in
    let places = c.as_slice-place-items.result.now in
    let k = c.loop-place.place-index in
    let l = c.loop-place-test.true in
    let place = get_or places k (0, 0) in
    let plan = c.index-methods-m.result in
    let below = method_below c.args.c.now c.args.r.now c.requires.small c.requires.strata c.requires.lines places by_rank k (0, 0) l in
    let is : slice_get c.args.c.now.methods (get_or c.as_slice-place-items.result.now c.loop-place.place-index (0, 0)).1 ≡ Some c.index-methods-m.result =
    plan_at c.as_slice-methods.result.now c.args.c.now.methods place.1 plan c.as_slice-methods.ensures.items below c.index-methods-m.is in
    of_all IsOrdered c.args.c.now.methods place.1 plan c.requires.ordered is

pub method_number-requires-clause-line : goal.method_number-requires-clause-line
method_number-requires-clause-line c =
    let by_rank = subst (AreByRank c.args.c.now c.args.r.now) (sym c.as_slice-place-items.ensures.value) c.in_ok-places.ensures.places in
    let places = c.as_slice-place-items.result.now in
    let k = c.loop-place.place-index in
    let l = c.loop-place-test.true in
    let place = get_or places k (0, 0) in
    let plan = c.index-methods-m.result in
    let below = method_below c.args.c.now c.args.r.now c.requires.small c.requires.strata c.requires.lines places by_rank k (0, 0) l in
    let is : slice_get c.args.c.now.methods (get_or c.as_slice-place-items.result.now c.loop-place.place-index (0, 0)).1 ≡ Some c.index-methods-m.result =
    plan_at c.as_slice-methods.result.now c.args.c.now.methods place.1 plan c.as_slice-methods.ensures.items below c.index-methods-m.is in
    of_all HasLine c.args.c.now.methods place.1 plan c.requires.lines is

pub method_number-requires-clause-ranked : goal.method_number-requires-clause-ranked
method_number-requires-clause-ranked c =
    let by_rank = subst (AreByRank c.args.c.now c.args.r.now) (sym c.as_slice-place-items.ensures.value) c.in_ok-places.ensures.places in
    let places = c.as_slice-place-items.result.now in
    let k = c.loop-place.place-index in
    let l = c.loop-place-test.true in
    let place = get_or places k (0, 0) in
    let plan = c.index-methods-m.result in
    let below = method_below c.args.c.now c.args.r.now c.requires.small c.requires.strata c.requires.lines places by_rank k (0, 0) l in
    let is : slice_get c.args.c.now.methods (get_or c.as_slice-place-items.result.now c.loop-place.place-index (0, 0)).1 ≡ Some c.index-methods-m.result =
    plan_at c.as_slice-methods.result.now c.args.c.now.methods place.1 plan c.as_slice-methods.ensures.items below c.index-methods-m.is in
    are_ranked c.args.c.now c.args.r.now c.requires.small c.requires.strata c.requires.lines place.1 plan is

pub method_number-requires-clause-numbers : goal.method_number-requires-clause-numbers
method_number-requires-clause-numbers c =
    subst (HaveNumbers c.args.r.now) (sym c.as_slice.ensures.value) (have_numbers c.args.c.now c.args.r.now c.requires.small c.requires.strata c.requires.lines c.as_slice-place-items.result.now c.loop-place.place-index c.loop-place.numbers.items c.loop-place.invariant)

pub returns-in_err-number-clause-refused : goal.returns-in_err-number-clause-refused
returns-in_err-number-clause-refused c =
    let by_rank = subst (AreByRank c.args.c.now c.args.r.now) (sym c.as_slice-place-items.ensures.value) c.in_ok-places.ensures.places in
    let places = c.as_slice-place-items.result.now in
    let k = c.loop-place.place-index in
    let l = c.loop-place-test.true in
    let place = get_or places k (0, 0) in
    let plan = c.index-methods-m.result in
    let below = method_below c.args.c.now c.args.r.now c.requires.small c.requires.strata c.requires.lines places by_rank k (0, 0) l in
    let is : slice_get c.args.c.now.methods (get_or c.as_slice-place-items.result.now c.loop-place.place-index (0, 0)).1 ≡ Some c.index-methods-m.result =
    plan_at c.as_slice-methods.result.now c.args.c.now.methods place.1 plan c.as_slice-methods.ensures.items below c.index-methods-m.is in
    let past = subst (λ xs. IsPastBy c.args.r.now xs c.index-methods-m.result c.in_err-number.field-0.0) c.as_slice.ensures.value c.in_err-number.ensures.past in
    let h = refused c.args.c.now c.args.r.now c.requires.small c.requires.strata c.requires.lines places by_rank k (0, 0) l c.loop-place.numbers.items plan c.in_err-number.field-0.0 is c.loop-place.invariant past in
    error_told c.from_residual-in_err-number.result (IsRefused c.args.c.now) _ c.from_residual-in_err-number.ensures.1 (λ error same. subst (IsRefused c.args.c.now) (sym same) h)

pub index-former-requires : goal.index-former-requires
index-former-requires c =
    let by_rank = subst (AreByRank c.args.c.now c.args.r.now) (sym c.as_slice-place-items.ensures.value) c.in_ok-places.ensures.places in
    let places = c.as_slice-place-items.result.now in
    let k = c.loop-place.place-index in
    let l = c.loop-place-test.true in
    let place = get_or places k (0, 0) in
    let b = group_below c.args.c.now c.args.r.now c.requires.small c.requires.strata c.requires.lines places by_rank k (0, 0) l c.loop-place.numbers.items c.loop-place.invariant in
    let v = c.loop-place.numbers.ok.0 in
    omega arith

pub index_mut-requires : goal.index_mut-requires
index_mut-requires c =
    let by_rank = subst (AreByRank c.args.c.now c.args.r.now) (sym c.as_slice-place-items.ensures.value) c.in_ok-places.ensures.places in
    let places = c.as_slice-place-items.result.now in
    let k = c.loop-place.place-index in
    let l = c.loop-place-test.true in
    let place = get_or places k (0, 0) in
    let b = group_below c.args.c.now c.args.r.now c.requires.small c.requires.strata c.requires.lines places by_rank k (0, 0) l c.loop-place.numbers.items c.loop-place.invariant in
    let v = c.loop-place.numbers.ok.0 in
    omega arith

pub loop-place-preserved : goal.loop-place-preserved
loop-place-preserved c =
    let by_rank = subst (AreByRank c.args.c.now c.args.r.now) (sym c.as_slice-place-items.ensures.value) c.in_ok-places.ensures.places in
    let places = c.as_slice-place-items.result.now in
    let k = c.loop-place.place-index in
    let l = c.loop-place-test.true in
    let place = get_or places k (0, 0) in
    let plan = c.index-methods-m.result in
    let below = method_below c.args.c.now c.args.r.now c.requires.small c.requires.strata c.requires.lines places by_rank k (0, 0) l in
    let is : slice_get c.args.c.now.methods (get_or c.as_slice-place-items.result.now c.loop-place.place-index (0, 0)).1 ≡ Some c.index-methods-m.result =
    plan_at c.as_slice-methods.result.now c.args.c.now.methods place.1 plan c.as_slice-methods.ensures.items below c.index-methods-m.is in
    let x = c.loop-place.numbers.items in
    let b = group_below c.args.c.now c.args.r.now c.requires.small c.requires.strata c.requires.lines places by_rank k (0, 0) l x c.loop-place.invariant in
    let former = get_or_read x place.0 c.index-former.result.now b c.index-former.ensures 0 in
    counted_more c.args.c.now c.args.r.now c.requires.small c.requires.strata c.requires.lines places by_rank k (0, 0) l x _ plan c.in_ok-number.number c.max.result is c.loop-place.invariant
    (subst (λ xs. IsGreatest c.args.r.now xs c.index-methods-m.result c.in_ok-number.number) c.as_slice.ensures.value c.in_ok-number.ensures.greatest)
    (c.max.ensures ∙ ap (λ n. max n c.in_ok-number.number) former) refl

pub returns-clause-bound : goal.returns-clause-bound
returns-clause-bound c =
    let by_rank = subst (AreByRank c.args.c.now c.args.r.now) (sym c.as_slice-place-items.ensures.value) c.in_ok-places.ensures.places in
    let l = c.loop-place-test.false in
    let h = counted_all c.args.c.now c.args.r.now c.requires.small c.requires.strata c.requires.lines c.as_slice-place-items.result.now c.loop-place.numbers.items c.loop-place.place-index by_rank l c.loop-place.invariant in
    let x = c.loop-place.numbers.items in
    let top = c.group.ensures.group ∙ ap (number_of c.args.r.now) c.len-top.ensures.length in
    let below : c.group.result < length c.loop-place.numbers.items = let a = (have_numbers c.args.c.now c.args.r.now c.requires.small c.requires.strata c.requires.lines c.as_slice-place-items.result.now c.loop-place.place-index x c.loop-place.invariant).groups (top_task c.args.c.now) in omega arith in
    let number = get_or_read x c.group.result c.index.result.now below c.index.ensures 0 in
    subst (IsBound c.args.c.now) (sym (number ∙ ap (λ i. get_or c.loop-place.numbers.items i 0) top)) h
