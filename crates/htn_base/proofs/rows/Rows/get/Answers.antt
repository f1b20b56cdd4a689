use Rattle.std.proofs.Common.{suc, Some, ◌≡◌, ◌∷◌, length, slice_get, ap, sym, ◌∙◌, arith}
use Rattle.htn_base.proofs.PackedLemmas.{no_row, row_read, row_within}
use Rattle.htn_base.proofs.ReadAt.{past_read}
use Rattle.htn_base.proofs.rows.Rows.get.Goals as goal
use Rattle.htn_base.proofs.rows.Rows.get.Goals.{in-Some+in_ok-start-in-Some, in-None}

pub returns-in_err-head : goal.returns-in_err-head
returns-in_err-head c =
    let rows = c.self.inside in
    let past = past_read rows.heads c.args.k c.get.result c.get.ensures.number c.in_err-head.was in
    rw c.from_residual.ensures
    (record { row = no_row rows.heads rows.ends rows.rest c.self.invariant c.args.self.now c.args.k c.self.view_is past })

pub returns-in_err-start-in-Some : goal.returns-in_err-start-in-Some
returns-in_err-start-in-Some c =
    let rows = c.self.inside in
    let past = past_read rows.ends c.in-Some.before c.get-in-Some.result c.get-in-Some.ensures.number c.in_err-start-in-Some.was in
    let paired = c.self.invariant.paired in
    rw c.from_residual-in_err-start-in-Some.ensures
    (record { row = no_row rows.heads rows.ends rows.rest c.self.invariant c.args.self.now c.args.k c.self.view_is (omega (arith, past, paired, c.in-Some.ensures)) })

pub returns-in_err-end : goal.returns-in_err-end
returns-in_err-end c =
    let rows = c.self.inside in
    let past = past_read rows.ends c.args.k c.get-2.result c.get-2.ensures.number c.in_err-end.was in
    let paired = c.self.invariant.paired in
    rw c.from_residual-in_err-end.ensures
    (record { row = no_row rows.heads rows.ends rows.rest c.self.invariant c.args.self.now c.args.k c.self.view_is (omega (arith, past, paired)) })

module _ (c : goal.In_ok-end) where
  start : slice_get (0 ∷ c.self.inside.ends) c.args.k ≡ Some c.match-checked_sub.start
  start = elim c.match-checked_sub.branch [
    | in-Some+in_ok-start-in-Some w ↦
        let next : c.args.k ≡ suc w.in-Some.before = omega (arith, w.in-Some.ensures) in
        ap (slice_get (0 ∷ c.self.inside.ends)) next ∙ sym w.get-in-Some.ensures.number ∙ w.in_ok-start-in-Some.was ∙ ap (λ n. Some n) (sym w.start-is)
    | in-None w ↦
        let first : c.args.k ≡ 0 = omega (arith, w.in-None.ensures) in
        ap (slice_get (0 ∷ c.self.inside.ends)) first ∙ ap (λ n. Some n) (sym w.start-is)
  ]

  end : slice_get c.self.inside.ends c.args.k ≡ Some c.in_ok-end.end
  end = sym c.get-2.ensures.number ∙ c.in_ok-end.was

pub invariant_of-rest : goal.invariant_of-rest
invariant_of-rest c = row_within 0 c.self.inside.ends (length c.self.inside.rest) c.args.k c.match-checked_sub.start c.in_ok-end.end c.self.invariant.rising (start c) (end c)

pub returns : goal.returns
returns c =
    let rows = c.self.inside in
    let head = sym c.get.ensures.number ∙ c.in_ok-head.was in
    record {
      row = sym (row_read rows.heads rows.ends rows.rest c.self.invariant c.args.k c.in_ok-head.head c.match-checked_sub.start c.in_ok-end.end head (start c) (end c))
          ∙ ap (λ xs. slice_get xs c.args.k) c.self.view_is;
    }
