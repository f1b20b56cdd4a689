use Rattle.std.specs.Option.{option_copied}
use Rattle.std.specs.Prelude.{slice_range}
use Rattle.std.specs.Slice.{IsGetRangeResult}
use Rattle.std.proofs.Common.{ℕ, suc, List, Option, Some, None, Bor, ◌≡◌, ◌+◌, ◌≤◌, ◌∷◌, length, slice_get, subst, ap, sym, ◌∙◌, arith}
use Rattle.htn_base.proofs.PackedLemmas.{part_read, no_part, row_within}
use Rattle.htn_base.proofs.ReadAt.{past_read}
use Rattle.htn_base.proofs.word_list.WordList.text.Goals as goal

pub returns-in_err-start-clause-word : goal.returns-in_err-start-clause-word
returns-in_err-start-clause-word c =
    let list = c.self.inside in
    let past = past_read (0 ∷ list.ends.items) c.args.name.number c.boundary.result c.boundary.ensures c.in_err-start.was in
    ap (λ found. option_copied found) c.from_residual.ensures ∙ no_part list.ends.items list.bytes.items c.args.self.now c.args.name.number c.self.view_is (omega (arith, past))

pub returns-in_err-end-clause-word : goal.returns-in_err-end-clause-word
returns-in_err-end-clause-word c =
    let list = c.self.inside in
    let past = past_read (0 ∷ list.ends.items) (c.args.name.number + 1) c.boundary-2.result c.boundary-2.ensures c.in_err-end.was in
    ap (λ found. option_copied found) c.from_residual-in_err-end.ensures ∙ no_part list.ends.items list.bytes.items c.args.self.now c.args.name.number c.self.view_is (omega (arith, past))

module _ (c : goal.After-get) where
  from : slice_get (0 ∷ c.self.inside.ends.items) c.args.name.number ≡ Some c.in_ok-start.start
  from = sym c.boundary.ensures ∙ c.in_ok-start.was

  to : slice_get c.self.inside.ends.items c.args.name.number ≡ Some c.in_ok-end.end
  to =
      let next : suc c.args.name.number ≡ c.args.name.number + 1 = omega arith in
      ap (slice_get (0 ∷ c.self.inside.ends.items)) next ∙ sym c.boundary-2.ensures ∙ c.in_ok-end.was

  within : (c.in_ok-start.start ≤ c.in_ok-end.end) × (c.in_ok-end.end ≤ length c.self.inside.bytes.items)
  within = row_within 0 c.self.inside.ends.items (length c.self.inside.bytes.items) c.args.name.number c.in_ok-start.start c.in_ok-end.end c.self.invariant.rising from to

pub returns-clause-word : goal.returns-clause-word
returns-clause-word c =
    let list = c.self.inside in
    by c.get.result c.get.ensures.lookup
    ∙ sym (part_read 0 list.ends.items list.bytes.items c.args.name.number c.in_ok-start.start c.in_ok-end.end (from c) (to c))
    ∙ ap (λ xs. slice_get xs c.args.name.number) c.self.view_is
  where
    by : (found : Option (Bor (List ℕ))) → IsGetRangeResult c.deref.result.now c.in_ok-start.start c.in_ok-end.end found
        → option_copied found ≡ Some (slice_range c.self.inside.bytes.items c.in_ok-start.start c.in_ok-end.end)
    by None outside = let (up, end) = within c in absurd (cc (outside.1 (up, subst (λ xs. c.in_ok-end.end ≤ length xs) (sym c.deref.ensures.value) end)))
    by (Some part) is = ap (λ xs. Some xs) (is.0.2 ∙ ap (λ xs. slice_range xs c.in_ok-start.start c.in_ok-end.end) c.deref.ensures.value)
