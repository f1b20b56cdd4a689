use Rattle.std.proofs.Common.{◌≤◌, ◌<◌, ℕ, List, length, Some, inr, refl, sym, ap, subst, ◌∙◌, arith}
use Rattle.std.specs.BTreeMap as tree
use Rattle.std.specs.Vec.{with_item}
use Rattle.std.proofs.lemmas.List.{get_or_default}
use Rattle.htn_base.specs.declared.name.Index.{Index}
use Rattle.htn_base.specs.Table.{bucket_of, IsKept}
use Rattle.htn_base.proofs.OrderedLemmas.{key_order, list_order}
use Rattle.htn_base.proofs.KeptLemmas.{kept-put, kept-set}
use Rattle.htn_base.proofs.name.put.Goals as goal
use Rattle.htn_base.proofs.name.put.Goals.{In_ok-insert}

put : (c : In_ok-insert)
    → tree.UpdatesBy key_order (list_order c.args.word.now) c.loop-place.index.others c.insert.new.self (Some c.args.number)
put c =
    subst
    (λ (word : List ℕ). tree.UpdatesBy key_order (list_order word) c.loop-place.index.others c.insert.new.self (Some c.args.number))
    c.in_ok-key.ensures.items c.in_ok-insert.ensures.updates

pub returns-clause-kept : goal.returns-clause-kept
returns-clause-kept c = inr (
  (put c).1,
  λ n read.
      let begins = c.bucket_of-start.ensures.start
      ∙ ap (λ numbers. bucket_of numbers c.args.word.now) (c.deref.ensures.value ∙ ap (λ (index : Index). index.buckets.items) (sym c.loop-place.invariant.0)) in
      let less = c.loop-place.invariant.1 _ n (omega (arith, begins)) (omega (arith, begins, c.loop-place-test.false)) read in
      omega (arith, less, c.ranges.number.fits),
)

pub returns-clause-before : goal.returns-clause-before
returns-clause-before c = λ k other less differ kept.
    kept-put c.loop-place.index c.insert.new.self c.args.word.now other k differ (put c).3
    (subst (λ (index : Index). IsKept index other k) (sym c.loop-place.invariant.0) kept)

pub returns-then-index-number-clause-before : goal.returns-then-index-number-clause-before
returns-then-index-number-clause-before c = λ k other less differ kept.
    let over = subst (λ n. c.args.number ≤ n) (c.index.ensures ∙ get_or_default c.loop-place.index.buckets.items c.loop-place.place c.index.result.now 0 within) c.if-index-number.true in
    kept-set c.loop-place.index (with_item c.loop-place.index.buckets c.loop-place.place c.args.number) c.loop-place.place c.args.number other k refl within over less
    (subst (λ (index : Index). IsKept index other k) (sym c.loop-place.invariant.0) kept)
  where
    within : c.loop-place.place < length c.loop-place.index.buckets.items
    within = omega (arith, c.if-place-len.true, c.len.ensures)
