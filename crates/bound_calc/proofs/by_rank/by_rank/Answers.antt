use Rattle.std.proofs.Common.{ℕ, ◌≡◌, ◌<◌, ◌≤◌, ◌+◌, ◌++◌, ◌∷◌, [], Vec, Global, length, slice_get, get_or, Some, false, sym, ap, subst, ◌∙◌, arith}
use Rattle.std.proofs.lemmas.Bool.{false≢true}
use Rattle.std.proofs.lemmas.List.{get_or_read}
use Rattle.std.proofs.lemmas.Option.{slice_get-get_or}
use Rattle.std.proofs.lemmas.Grind.{common_steps}
use Rattle.bound_calc.proofs.Placing.{ArePlaced, placed_more, placed_same, placed_all, task_below}
use Rattle.bound_calc.proofs.by_rank.by_rank.Goals as goal
use Rattle.bound_calc.proofs.by_rank.by_rank.Goals.{then-index+in_ok-push, else-index}

pub loop-m-preserved : goal.loop-m-preserved
loop-m-preserved c =
    let ranks = c.args.r.now in
    let k = c.loop-m.m in
    let plan = c.plan-item.result in
    let is : slice_get c.args.c.now.methods c.loop-m.m ≡ Some c.plan-item.result =
    subst (λ ms. slice_get ms c.loop-m.m ≡ Some c.plan-item.result) c.as_slice-plan-items.ensures.items (slice_get-get_or c.as_slice-plan-items.result.now c.loop-m.m c.plan-item.result c.loop-m-test.true ∙ ap Some (sym c.plan-item.is)) in
    let below : c.plan-item.result.schema.task < length c.in_ok-marks.marks.items = let b = task_below c.args.c.now c.args.r.now c.requires.small k plan is in let r = c.in_ok-marks.ensures.room in omega arith in
    let mark : c.index.result.now ≡ get_or c.in_ok-marks.marks.items c.plan-item.result.schema.task false = get_or_read c.in_ok-marks.marks.items plan.schema.task c.index.result.now below c.index.ensures false in
    let told = c.in_ok-marks.ensures.reached plan.schema.task in
    elim c.if-index.branch [
      | then-index+in_ok-push w ↦ placed_more c.args.c.now c.args.r.now k c.loop-m.places.items c.if-index.places.items plan is (told.0 (sym mark ∙ w.if-index.true)) c.loop-m.invariant
          (ap (λ (v : Vec (ℕ × ℕ) Global). v.items) w.places-is ∙ w.in_ok-push.ensures.items ∙ ap (λ n. c.loop-m.places.items ++ (n, c.loop-m.m) ∷ []) w.rank.ensures.rank)
      | else-index w ↦ subst (ArePlaced c.args.c.now c.args.r.now (c.loop-m.m + 1)) (sym (ap (λ (v : Vec (ℕ × ℕ) Global). v.items) w.places-is))
          (placed_same c.args.c.now c.args.r.now k c.loop-m.places.items plan is (λ r. false≢true (sym w.if-index.false ∙ mark ∙ told.1 r)) c.loop-m.invariant)
    ]

pub returns : goal.returns
returns c =
    let p = c.sort_unstable.ensures.permutation in
    let l : length c.args.c.now.methods ≤ c.loop-m.m = let e = ap length c.as_slice-plan-items.ensures.items in let t = c.loop-m-test.false in omega arith in
    record { places = placed_all c.args.c.now c.args.r.now c.loop-m.m c.loop-m.places.items c.sort_unstable.new.self.items l c.loop-m.invariant c.sort_unstable.ensures.permutation c.sort_unstable.ensures.sorted }

pub reached-requires : goal.reached-requires
reached-requires c = grind (arith, common_steps)

pub loop-m-init : goal.loop-m-init
loop-m-init c = grind (arith, common_steps)

pub offset_bounds-plan-items-m : goal.offset_bounds-plan-items-m
offset_bounds-plan-items-m c = grind (arith, common_steps)

pub bounds-plan-items-m : goal.bounds-plan-items-m
bounds-plan-items-m c = grind (arith, common_steps)

pub index-requires : goal.index-requires
index-requires c = grind (arith, common_steps)

pub rank-requires : goal.rank-requires
rank-requires c = grind (arith, common_steps)

pub overflow_cast-m : goal.overflow_cast-m
overflow_cast-m c = grind (arith, common_steps)
