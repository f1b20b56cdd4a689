use Rattle.std.proofs.Common.{ℕ, ◌≡◌, ◌+◌, ◌-◌, ◌<◌, ◌≤◌, inl, inr, ◌^◌, List, length, get_or, Contains, sym, ap, subst, ◌∙◌, arith}
use Rattle.std.proofs.lemmas.List.Elements.{Contains-get_or}
use Rattle.plan_model.specs.declared.networks.Child.{Child}
use Rattle.plan_model.specs.declared.networks.Head.TheVariants.{Task}
use Rattle.bound_calc.specs.Blocks.{child_number, IsGreatestOrPast}
use Rattle.bound_calc.proofs.Along.{IsSummed}
use Rattle.bound_calc.proofs.Greatest.{many, child_below, number_read, child_ranked, positive, IsStart, summed_first, summed_next, past_next, greatest_all, at_least}
use Rattle.bound_calc.proofs.blocks.greatest_block.Goals as goal
use Rattle.bound_calc.proofs.blocks.greatest_block.Goals.{then-k-gt0+then-cut, else-k-gt0, else-k-gt0-via-then-k-gt0+else-cut, else-k-gt0-via-else-k-gt0}

pub overflow_cast-k : goal.overflow_cast-k
overflow_cast-k c =
    let m = many c.args.plan.now c.requires.line in
    let s = c.requires.small.children in
    let l = c.loop-k-test.true in
    let e = ap length c.as_slice-line.ensures.items in
    omega arith

pub cut-requires-clause-within : goal.cut-requires-clause-within
cut-requires-clause-within c =
    let m = many c.args.plan.now c.requires.line in
    let n = c.requires.order.children in
    let l = c.loop-k-test.true in
    let e = ap length c.as_slice-line.ensures.items in
    omega arith

pub bounds-children-child : goal.bounds-children-child
bounds-children-child c =
    let line = c.as_slice-line.ensures.items in
    let l : c.loop-k.k < length c.args.plan.now.line = let t = c.loop-k-test.true in let e = ap length line in omega arith in
    let b = child_below c.args.plan.now c.requires.line c.loop-k.k l in
    let x = ap (λ xs. get_or xs c.loop-k.k 0) line in
    let y = ap length c.as_slice-children.ensures.items in
    omega arith

pub number_of-number-requires-clause-ranked : goal.number_of-number-requires-clause-ranked
number_of-number-requires-clause-ranked c t e =
    let line = c.as_slice-line.ensures.items in
    let l : c.loop-k.k < length c.args.plan.now.line = let t = c.loop-k-test.true in let e = ap length line in omega arith in
    let one = c.index-children-child.result in
    child_ranked c.args.r.now c.args.plan.now c.requires.ranked (get_or c.args.plan.now.line c.loop-k.k 0) one (child_below c.args.plan.now c.requires.line c.loop-k.k l) t
    (subst (λ xs. (get_or c.args.plan.now.schema.children (get_or xs c.loop-k.k 0) one).head ≡ Task t) line (subst (λ (cs : List Child). (get_or cs (get_or c.as_slice-line.result.now c.loop-k.k 0) one).head ≡ Task t) c.as_slice-children.ensures.items e))

pub loop-k-init : goal.loop-k-init
loop-k-init c = record {
  within = omega arith;
  summed = λ block are. subst (λ n. IsSummed c.args.plan.now.line (child_number c.args.r.now c.args.numbers.now c.args.plan.now) block 0 n 1) (sym (ap length c.as_slice-line.ensures.items))
      (summed_first c.args.plan.now c.requires.line (child_number c.args.r.now c.args.numbers.now c.args.plan.now) (λ x k. positive c.args.r.now c.args.numbers.now c.args.plan.now c.requires.numbers x) block are);
}

pub loop-k-preserved : goal.loop-k-preserved
loop-k-preserved c =
    let plan = c.args.plan.now in
    let line = c.as_slice-line.ensures.items in
    let lines : length c.as_slice-line.result.now ≡ length c.args.plan.now.line = ap length line in
    let k = c.loop-k.k in
    let l : c.loop-k.k < length c.args.plan.now.line = let t = c.loop-k-test.true in omega arith in
    let own = child_number c.args.r.now c.args.numbers.now c.args.plan.now in
    let up = λ (x : ℕ) (d : Contains c.args.plan.now.line x). positive c.args.r.now c.args.numbers.now c.args.plan.now c.requires.numbers x in
    let start : IsStart c.args.plan.now c.requires.line c.args.order.now c.requires.order c.loop-k.k c.loop-k.pending c.if-k-gt0.pending = elim c.if-k-gt0.branch [
      | then-k-gt0+then-cut w ↦ inl (w.if-k-gt0.true, sym w.cut.ensures ∙ w.if-cut.true, w.pending-is ∙ ap (λ n. n - c.loop-k.k) lines)
      | else-k-gt0 w ↦ inr (
        elim w.else-k-gt0.branch [
          | else-k-gt0-via-then-k-gt0+else-cut v ↦ inr (v.if-k-gt0.true, sym v.cut.ensures ∙ v.if-cut.false)
          | else-k-gt0-via-else-k-gt0 v ↦ inl (let z = v.if-k-gt0.false in omega arith)
        ],
        w.pending-is,
      )
    ] in
    let number = number_read c.args.r.now c.args.numbers.now plan c.requires.line _ _ k c.number_of-number.result c.index-children-child.result c.as_slice-children.ensures.items line l c.number_of-number.ensures.number in
    let added = c.in_ok-pending.ensures.1 in
    let positive = c.number_of-number.ensures.positive in
    let more : c.in_ok-pending.pending + 1 ≡ c.if-k-gt0.pending + own (get_or c.args.plan.now.line c.loop-k.k 0) = omega arith in
    record {
      within = omega arith;
      summed = λ block are. summed_next plan c.requires.line c.args.order.now c.requires.order own up block are k c.loop-k.pending c.if-k-gt0.pending c.loop-k.greatest c.in_ok-pending.pending c.max-greatest.result l start
          (c.loop-k.invariant.summed block are) more c.max-greatest.ensures;
    }

pub returns-in_err-pending : goal.returns-in_err-pending
returns-in_err-pending c =
    let plan = c.args.plan.now in
    let line = c.as_slice-line.ensures.items in
    let lines : length c.as_slice-line.result.now ≡ length c.args.plan.now.line = ap length line in
    let k = c.loop-k.k in
    let l : c.loop-k.k < length c.args.plan.now.line = let t = c.loop-k-test.true in omega arith in
    let own = child_number c.args.r.now c.args.numbers.now c.args.plan.now in
    let up = λ (x : ℕ) (d : Contains c.args.plan.now.line x). positive c.args.r.now c.args.numbers.now c.args.plan.now c.requires.numbers x in
    let start : IsStart c.args.plan.now c.requires.line c.args.order.now c.requires.order c.loop-k.k c.loop-k.pending c.if-k-gt0.pending = elim c.if-k-gt0.branch [
      | then-k-gt0+then-cut w ↦ inl (w.if-k-gt0.true, sym w.cut.ensures ∙ w.if-cut.true, w.pending-is ∙ ap (λ n. n - c.loop-k.k) lines)
      | else-k-gt0 w ↦ inr (
        elim w.else-k-gt0.branch [
          | else-k-gt0-via-then-k-gt0+else-cut v ↦ inr (v.if-k-gt0.true, sym v.cut.ensures ∙ v.if-cut.false)
          | else-k-gt0-via-else-k-gt0 v ↦ inl (let z = v.if-k-gt0.false in omega arith)
        ],
        w.pending-is,
      )
    ] in
    let number = number_read c.args.r.now c.args.numbers.now plan c.requires.line _ _ k c.number_of-number.result c.index-children-child.result c.as_slice-children.ensures.items line l c.number_of-number.ensures.number in
    let sum = c.if-k-gt0.pending + (c.number_of-number.result - 1) in
    let positive = c.number_of-number.ensures.positive in
    let more : (c.if-k-gt0.pending + (c.number_of-number.result - 1)) + 1 ≡ c.if-k-gt0.pending + own (get_or c.args.plan.now.line c.loop-k.k 0) = omega arith in
    let past : 2 ^ 128 ≤ c.if-k-gt0.pending + (c.number_of-number.result - 1) = at_least sum (2 ^ 128) c.in_err-pending.ensures in
    record {
      greatest = subst (IsGreatestOrPast c.args.r.now c.args.numbers.now c.args.plan.now)
          (sym c.from_residual.ensures)
          (λ block are. (
            get_or c.args.plan.now.line c.loop-k.k 0,
            Contains-get_or c.args.plan.now.line c.loop-k.k 0 l,
            (let b = past_next plan c.requires.line c.args.order.now c.requires.order own up block are k c.loop-k.pending c.if-k-gt0.pending c.loop-k.greatest sum l start (c.loop-k.invariant.summed block are) more in omega arith),
          ));
    }

pub returns : goal.returns
returns c =
    let e : c.loop-k.k ≡ length c.args.plan.now.line = let t = c.loop-k-test.false in let w = c.loop-k.invariant.within in let l = ap length c.as_slice-line.ensures.items in omega arith in
    record { greatest = greatest_all c.args.plan.now c.requires.line (child_number c.args.r.now c.args.numbers.now c.args.plan.now) (λ x k. positive c.args.r.now c.args.numbers.now c.args.plan.now c.requires.numbers x) c.loop-k.k c.loop-k.pending c.loop-k.greatest e c.loop-k.invariant.summed }
